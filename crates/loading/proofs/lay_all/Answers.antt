-- Refused before anything is written, or laid out and cleared.
use mathlib.Core.Path.{sym, ◌∙◌}
use native.Mathlib.Nat.{sub-zero}
use Rattle.std.proofs.lemmas.Result.{err_from_is_err_and}
use Rattle.rules.proofs.Given.{done_number}
use Rattle.rules.proofs.Turning.{picture_rows}
use Rattle.loading.proofs.Loaded.{load_refused, load_room, load_gives}
use Rattle.loading.proofs.lay_all.Goals as goal

pub returns-in_err-judged : goal.returns-in_err-judged
returns-in_err-judged c edition =
    let p = err_from_is_err_and c.from_residual.result c.from_residual.ensures.1 in
    rw (p.1, p.2) (load_refused _ _ _ _ _ _ _ (rw c.in_err-judged.was at c.judged.ensures))

pub unwrap-memory-requires : goal.unwrap-memory-requires
unwrap-memory-requires c = c.as_mut_array.ensures.variant.1 (load_room _ _ _ _ _ (sym c.judged.ensures ∙ done_number c.in_ok-judged.was)).memory

pub unwrap-rows-requires : goal.unwrap-rows-requires
unwrap-rows-requires c =
    c.as_mut_array-2.ensures.variant.1 (picture_rows c.args.rows.now (load_room _ _ _ _ _ (sym c.judged.ensures ∙ done_number c.in_ok-judged.was)).picture)

pub lay_out-requires : goal.lay_out-requires
lay_out-requires c = (load_room _ _ _ _ _ (sym c.judged.ensures ∙ done_number c.in_ok-judged.was)).short

pub returns : goal.returns
returns c edition =
    load_gives _ _ _ _ _ _ (sym c.judged.ensures ∙ done_number c.in_ok-judged.was) _ _ _ c.lay_out.ensures c.clear.ensures
    (rw sub-zero at c.clear-2.ensures)
