-- What the call gives where it is refused, and where it is done; and that the promise is tight.
use mathlib.Core.Path.{◌≡◌, refl, sym, ap, ap₂, ◌∙◌, subst}
use mathlib.Core.List.{List}
use Prim.Native.Nat.{ℕ}
use lib.ListN.{length}
use Rattle.std.specs.Prelude.{Result, Ok, Err}
use Rattle.rules.specs.declared.Machine.{Machine}
use Rattle.rules.specs.declared.Trail.{Trail}
use Rattle.rules.specs.declared.Refusal.{Refusal}
use Rattle.rules.specs.Refusal.{Outcome, number_of, number}
use Rattle.rules.specs.World.{places}
use Rattle.rules.proofs.Choices.{by_test}
use Rattle.rules.proofs.OnlyOne.{one_outcome}
use Rattle.rules.proofs.Given.{some_number}
use Rattle.salvage_places.specs.Places.{others}
use Rattle.salvage_places.specs.Cleared.{cleared}
use Rattle.salvage_places.specs.Listed.{entries, laid}
use Rattle.salvage.specs.declared.Salvaged.{Salvaged}
use Rattle.salvage.specs.Salvage.{Salvage, row_of, salvage_refusal, salvage}
use Rattle.salvage.specs.Promise.{reported, GivesSalvage}
use Rattle.salvage.proofs.Accepted.{admitted, accepted}

module _ (m : Machine) (t : Trail) (history list : List ℕ) where
  pub given_refused : (r : Refusal) → number_of r ≡ salvage_refusal m t history list
      → GivesSalvage (salvage m t history list) (Err r) t history list
  unfolding salvage
  given_refused r says =
      by_test (λ (s : Salvage). GivesSalvage s (Err r) t history list)
      (salvage_refusal m t history list) 0 (λ z. absurd (some_number r (says ∙ z)))
      (λ ne. record { says = says; kept = refl; cleared = refl; trail = refl; history = refl; list = refl })

  pub given_done : (k r n : ℕ) (history' list' : List ℕ) → salvage_refusal m t history list ≡ 0 → k ≡ row_of m t history → r ≡ places history
      → history' ≡ cleared (others (places history) t.next k) history → n ≡ length (others r t.next k)
      → list' ≡ laid (entries r t (others r t.next k)) list
      → GivesSalvage (salvage m t history list)
      (Ok (record { kept = k; cleared = n })) (record { next = t.next; kept = k; ahead = 0 }) history' list'
  given_done k r n history' list' d ek er eh en el =
      let given : Salvaged = record { kept = k; cleared = n } in
      let still : Trail = record { next = t.next; kept = k; ahead = 0 } in
      subst (λ (s : Salvage). GivesSalvage s (Ok given) still history' list') (sym (accepted m t history list (admitted m t history list d)))
      (record {
        says = refl;
        kept = ek;
        cleared = en ∙ ap₂ (λ (r k : ℕ). length (others r t.next k)) er ek;
        trail = ap (λ (k : ℕ). record { next = t.next; kept = k; ahead = 0 }) ek;
        history = eh ∙ ap (λ (k : ℕ). cleared (others (places history) t.next k) history) ek;
        list = el ∙ ap₂ (λ (r k : ℕ). laid (entries r t (others r t.next k)) list) er ek;
      })

-- an answer is known by its number and by what it reports
beside : Salvaged → Outcome → Result Salvaged Refusal
beside r (Ok _) = Ok r
beside r (Err x) = Err x

one_answer : (o p : Result Salvaged Refusal) → number o ≡ number p → reported o ≡ reported p → o ≡ p
unfolding beside
one_answer (Ok r) (Ok s) e same = ap Ok same
one_answer (Ok r) (Err x) e same = absurd (some_number x (sym e))
one_answer (Err x) (Ok r) e same = absurd (some_number x e)
one_answer (Err x) (Err y) e same = ap (beside (record { kept = 0; cleared = 0 })) (one_outcome (Err x) (Err y) e)

-- two answers that one salvage allows are equal, refused or not
pub only_one_salvage : (s : Salvage) (o p : Result Salvaged Refusal) (t u : Trail) (h h' l l' : List ℕ) → GivesSalvage s o t h l → GivesSalvage s p u h' l'
    → (o ≡ p) × (t ≡ u) × (h ≡ h') × (l ≡ l')
only_one_salvage s o p t u h h' l l' g f =
    let kept = g.kept ∙ sym f.kept in
    let cleared = g.cleared ∙ sym f.cleared in (
      one_answer o p (g.says ∙ sym f.says) (λ i. record { kept = kept i; cleared = cleared i }),
      g.trail ∙ sym f.trail,
      g.history ∙ sym f.history,
      g.list ∙ sym f.list,
    )
