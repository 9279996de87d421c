-- A record between two boards: it was written beside an action that was accepted at the one and led to the other. So a step back restores
-- the one, and a step forward makes the action again and leads to the other.
use mathlib.Core.Path.{◌≡◌, sym, ap, ◌∙◌, subst, subst₂}
use mathlib.Core.Bool.{true}
use mathlib.Core.List.{List}
use Prim.Native.Nat.{ℕ}
use Rattle.rules.specs.declared.Action.{Action}
use Rattle.rules.specs.State.{chosen}
use Rattle.rules.specs.Record.{old, kind_sound, action_at}
use Rattle.rules.specs.Step.{Board}
use Rattle.rules.specs.Call.{board_by, change_by, own_refusal, record_by}
use Rattle.rules.specs.Typed.{TypedAction}
use Rattle.rules.proofs.Good.{GoodBoard}
use Rattle.rules.proofs.Back.{Reads}
use Rattle.rules.proofs.Undo.{Restores, undo, written_reads}
use Rattle.rules.proofs.Follow.{Follows, action_follows, action_recounts}
use Rattle.rules.proofs.Still.{action_chosen}

pub record Link (r : List ℕ) (b b' : Board) : Type 0 where
  pub action : Action
  pub typed : TypedAction action
  pub good : GoodBoard b
  pub accepted : own_refusal action b ≡ 0
  pub is : r ≡ record_by action b
  pub leads : board_by action b ≡ b'

module _ {r : List ℕ} {b b' : Board} (l : Link r b b') where
  abbrev a : Action
  a = l.action

  follows : Follows (change_by a b) b (board_by a b)
  follows = action_follows b l.good a l.accepted

  pub leads_good : GoodBoard b'
  leads_good = subst GoodBoard l.leads follows.good

  reads : Reads (record_by a b) b.machine (change_by a b) (old (change_by a b) b.memory b.picture) a
  reads = written_reads _ a b l.good follows.undoable.fits

  pub restores : Restores r b' b
  restores =
      subst₂ (λ (q : List ℕ) (c : Board). Restores q c b) (sym l.is) l.leads
      (undo _ a b _ l.good follows.good follows.undoable (action_chosen a b) (action_recounts b l.good a l.accepted))

  pub same_chosen : chosen b.machine ≡ chosen b'.machine
  same_chosen = sym (action_chosen a b) ∙ ap (λ (c : Board). chosen c.machine) l.leads

  pub kind_known : kind_sound r ≡ true
  kind_known = ap kind_sound l.is ∙ reads.kind

  pub again : action_at r ≡ a
  again = ap action_at l.is ∙ reads.action l.typed
