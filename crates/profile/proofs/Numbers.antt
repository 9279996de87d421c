-- The numbers that a step and a run answer besides: what each step adds is the same with other bytes above the end, and so the sum is.
use mathlib.Core.Path.{◌≡◌, refl, ap, ap₂, ◌∙◌, subst}
use mathlib.Core.List.{List, [], ◌∷◌}
use Prim.Native.Nat.{ℕ, ◌+◌, ◌-◌}
use native.Mathlib.Omega.{arith}
use lib.ListN.{length, length-drop}
use lib.Dec.{eqb}
use Rattle.rules.specs.declared.Op.{Op}
use Rattle.rules.specs.Number.{pick}
use Rattle.rules.specs.World.{World, Answer, board_of}
use Rattle.rules.specs.Call.{op_at, step, step_refusal}
use Rattle.rules.specs.Run.{a_step, ticked_by, run_refusal, total_from, total, Ran}
use Rattle.rules.specs.Dark.{dark_of, step_dark}
use Rattle.rules.specs.Copied.{copied_of, step_copied}
use Rattle.rules.proofs.Ready.{step_accepted}
use Rattle.rules.proofs.Each.{made_lasts, ticks_last}
use Rattle.profile.specs.Profile.{above, with_above, answer_above, Sixteen, NumbersUnread}
use Rattle.profile.proofs.Alike.{zero_same}
use Rattle.profile.proofs.Above.{topped_length, accepted_op, op_topped, dark_topped}
use Rattle.profile.proofs.Profile.{room, two, Sized, sized_lasts, refusal_same, made_same, ticks_same, sized, long, run_same}

-- ---- what a step adds

module _ (w : World) (sixteen : Sixteen w) (j : List ℕ) (l : length j ≡ length (above w.machine.end w)) where
  abbrev e : ℕ
  e = w.machine.end

  abbrev v : World
  v = with_above e j w

  op_same : step_refusal w ≡ 0 → op_at (board_of v) ≡ op_at (board_of w)
  op_same q =
      let a = step_accepted w q in
      let r = room w a.fits a.sound in
      let t = two w a.fits a.sound in
      op_topped (board_of w) r sixteen t j (accepted_op (board_of w) r sixteen t a.rest).0

  drawn_same : step_refusal w ≡ 0 → dark_of (op_at (board_of v)) w.machine v.memory w.picture ≡ dark_of (op_at (board_of w)) w.machine w.memory w.picture
  drawn_same q =
      let a = step_accepted w q in
      let r = room w a.fits a.sound in
      let ok = (accepted_op (board_of w) r sixteen (two w a.fits a.sound) a.rest).1 in
      ap (λ (o : Op). dark_of o w.machine v.memory w.picture) (op_same q)
      ∙ dark_topped w.machine w.memory w.picture r sixteen j (op_at (board_of w)) ok

  dark_same : step_dark v ≡ step_dark w
  unfolding step_dark
  dark_same = rw (refusal_same w sixteen j l) (zero_same (step_refusal w) 0 drawn_same)

  copied_same : step_copied v ≡ step_copied w
  unfolding step_copied
  copied_same = rw (refusal_same w sixteen j l) (zero_same (step_refusal w) 0 λ q. ap (λ (o : Op). copied_of o w.machine) (op_same q))

-- ---- the sum over a run

module _ (e k : ℕ) (j : List ℕ) (l : length j ≡ k - e) (each : World → ℕ) (same : (w : World) → Sized e k w → each (with_above e j w) ≡ each w) where
  totals_same : (ts ks rs : List ℕ) (w : World) → Sized e k w → total_from each ts ks rs (with_above e j w) ≡ total_from each ts ks rs w
  unfolding total_from
  totals_same [] ks rs w h = refl
  totals_same (t ∷ ts) [] rs w h = refl
  totals_same (t ∷ ts) (x ∷ ks) [] w h = refl
  totals_same (t ∷ ts) (x ∷ ks) (r ∷ rs) w h =
      let u = ticked_by t w in
      let a = step x r u in
      let h' = ticks_last (Sized e k) (sized_lasts e k) t w h in
      let next : step x r (ticked_by t (with_above e j w)) ≡ answer_above e j a = ap (step x r) (ticks_same e k j l t w) ∙ made_same e k j l (a_step x r) u h' in
      let adds : each (ticked_by t (with_above e j w)) ≡ each u = ap each (ticks_same e k j l t w) ∙ same u h' in
      ap₂ (λ (c : Answer) (n : ℕ). pick (eqb c.refusal 0) (n + total_from each ts ks rs c.world) 0) next adds
      ∙ ap (λ (n : ℕ). pick (eqb a.refusal 0) (each u + n) 0)
      (totals_same ts ks rs a.world (made_lasts (Sized e k) (sized_lasts e k) (a_step x r) u h'))

-- of a world of those sizes
module _ (e k : ℕ) (j : List ℕ) (l : length j ≡ k - e) (each : World → ℕ)
    (same : (w : World) → Sixteen w → length j ≡ length (above w.machine.end w) → each (with_above w.machine.end j w) ≡ each w) where
  sized_same : (w : World) → Sized e k w → each (with_above e j w) ≡ each w
  sized_same w h =
      subst (λ (e : ℕ). length j ≡ length (above e w) → each (with_above e j w) ≡ each w) h.end (same w h.sixteen)
      (omega (arith, l, length-drop e w.memory, h.memory))

total_same : (each : World → ℕ) (w : World) (s : Sixteen w) (j : List ℕ) (l : length j ≡ length (above w.machine.end w))
    → ((w : World) → Sixteen w → length j ≡ length (above w.machine.end w) → each (with_above w.machine.end j w) ≡ each w)
    → (ticks keys randoms : List ℕ) → total each ticks keys randoms (with_above w.machine.end j w) ≡ total each ticks keys randoms w
unfolding total run_refusal
total_same each w s j l same ticks keys randoms =
    let e = w.machine.end in
    let k = length w.memory in
    let far = long w s j l in
    rw (topped_length e j w.memory l)
    (ap (λ (n : ℕ). pick (eqb (run_refusal ticks keys randoms w) 0) n 0)
    (totals_same e k j far each (sized_same e k j far each same) ticks keys randoms w (sized w s j l)))

pub numbers_unread : NumbersUnread
numbers_unread =
    record {
      dark = dark_same;
      accepted = λ ticks keys randoms w s j l. ap (λ (r : Ran). r.accepted) (run_same w s j l ticks keys randoms);
      run_dark = λ ticks keys randoms w s j l. total_same step_dark w s j l (λ w s l. dark_same w s j l) ticks keys randoms;
      run_copied = λ ticks keys randoms w s j l. total_same step_copied w s j l (λ w s l. copied_same w s j l) ticks keys randoms;
    }
