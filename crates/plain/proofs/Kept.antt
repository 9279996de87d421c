-- The proofs of what Kept claims: a run that is admitted equals the first engine's beside a history of one place, of which it is claimed
-- already; one that is refused hands back what came.
use mathlib.Core.Path.{◌≡◌, refl, sym, ap, ◌∙◌}
use mathlib.Core.Bool.{◌&&◌, and-eq-true_iff}
use mathlib.Core.List.{List}
use Prim.Native.Nat.{ℕ}
use native.Mathlib.Omega.{arith}
use native.Mathlib.Decide.{ℕ_discrete}
use lib.ListN.{drop, length}
use lib.Dec.{eqb}
use borrow.Author.Tests.{eq-eqb, ne_eqb}
use Rattle.rules.specs.declared.Machine.{Machine}
use Rattle.rules.specs.State.{chosen, sound}
use Rattle.rules.specs.Picture.{lit_spots}
use Rattle.rules.specs.World.{World, world}
use Rattle.rules.specs.Load.{fresh_trail}
use Rattle.rules.specs.Run.{Ran, run, lists_fit}
use Rattle.rules.specs.Typed.{Below, TypedMachine}
use Rattle.rules.proofs.Choices.{and_both, passed}
use Rattle.rules.proofs.Parts.{zeroes, below_append, below_take}
use Rattle.rules.proofs.Counted.{lit_sum}
use Rattle.rules.proofs.Spots.{sum_same}
use Rattle.rules.proofs.Lit.{lit_kept}
use Rattle.rules.proofs.Editions.{chosen_kept}
use Rattle.profile.proofs.Above.{topped_length}
use Rattle.profile.proofs.Profile.{above_kept, run_same}
use Rattle.spots.specs.Spots.{picture_of, spots_of, all_spots}
use Rattle.spots.proofs.Forms.{picture_spot, spots_spot, spots_are, spots_back}
use Rattle.plain.specs.Plain.{PlainRan, plain_refusal, plain_run}
use Rattle.plain.specs.Equal.{Equal, Given}
use Rattle.plain.specs.Kept.{Keeps, memory_above, plain_above, PlainKept, PlainUnread}
use Rattle.plain.proofs.Entries.{playable}
use Rattle.plain.proofs.Equal.{runs_equal}

-- the spots of a picture have its count
same_lit : (picture : List ℕ) → lit_spots (picture_of (spots_of picture)) ≡ lit_spots picture
same_lit picture =
    let spots = spots_of picture in
    lit_sum (picture_of spots)
    ∙ sum_same _ _ (λ x y hx hy. picture_spot spots (spots_are picture) x y hx hy ∙ spots_spot picture x y hx hy) 2048 0 (omega arith)
    ∙ sym (lit_sum picture)

module _ (ticks keys randoms : List ℕ) (m : Machine) (spots : List ℕ) (typed : TypedMachine m) where
  -- the first engine's world, beside a history of one place
  abbrev beside : List ℕ → World
  beside memory = world m fresh_trail memory (picture_of spots) (zeroes 292)

  abbrev first : List ℕ → Ran
  first memory = run ticks keys randoms (beside memory)

  abbrev plain : List ℕ → PlainRan
  plain memory = plain_run ticks keys randoms m memory spots

  abbrev refusal : List ℕ → ℕ
  refusal memory = plain_refusal ticks keys randoms m memory spots

  equal : (memory : List ℕ) → Below 256 memory → refusal memory ≡ 0 → Equal (first memory) (plain memory)
  unfolding plain_refusal
  equal memory bytes e =
      let lists = lists_fit ticks keys randoms in
      let p = playable m memory spots lists typed bytes e in
      let rest = (passed (eqb (length memory) 4096 && eqb (length spots) 2048 && lists) 8 _ e).1 in
      let healthy = ((and-eq-true_iff (sound m) (all_spots spots)).0 (passed (sound m && all_spots spots) 9 0 rest).0).0 in
      let given : Given (beside memory) =
      record {
        typed = record { machine = typed; memory = bytes; picture = p.good.picture.below };
        fits = and_both (and_both (eq-eqb _ _ p.good.memory.size) (eq-eqb _ _ p.good.picture.size)) refl;
        sound = and_both healthy refl;
      } in
      rw (spots_back spots p.are) at (runs_equal ticks keys randoms (beside memory) given)

  kept : (memory : List ℕ) → Below 256 memory → refusal memory ≡ 0 → Keeps m memory spots (plain memory)
  kept memory bytes e =
      let q = equal memory bytes e in
      let w = beside memory in
      record {
        lit = λ t. ap (λ (n : Machine). n.lit) (sym q.machine) ∙ lit_kept.run ticks keys randoms w t
            ∙ sym (ap (λ (s : List ℕ). lit_spots (picture_of s)) q.spots ∙ same_lit (first memory).answer.world.picture);
        chosen = ap chosen (sym q.machine) ∙ chosen_kept.run ticks keys randoms w;
        above = ap (drop m.end) (sym q.memory) ∙ above_kept.run ticks keys randoms w typed.vs;
      }

  -- a refused run hands back what came
  refused : (memory : List ℕ) → (refusal memory ≡ 0 → ⊥)
      → plain memory ≡ record { accepted = 0; refusal = refusal memory; machine = m; memory = memory; spots = spots }
  unfolding plain_run
  refused memory ne = rw (ne_eqb (refusal memory) 0 ne)

  module _ (memory : List ℕ) (bytes : Below 256 memory) (j : List ℕ) (small : Below 256 j) (l : length j ≡ length (drop m.end memory)) where
    abbrev other : List ℕ
    other = memory_above m.end j memory

    same_refusal : refusal other ≡ refusal memory
    unfolding plain_refusal
    same_refusal = rw (topped_length m.end j memory l)

    unread : refusal memory ≡ 0 → plain other ≡ plain_above m.end j (plain memory)
    unread e =
        let a = equal other (below_append (below_take bytes m.end) small) (same_refusal ∙ e) in
        let b = equal memory bytes e in
        let same = run_same (beside memory) typed.vs j l ticks keys randoms in
        let accepted = sym a.accepted ∙ ap (λ (r : Ran). r.accepted) same ∙ b.accepted in
        let number = sym a.refusal ∙ ap (λ (r : Ran). r.answer.refusal) same ∙ b.refusal in
        let machine = sym a.machine ∙ ap (λ (r : Ran). r.answer.world.machine) same ∙ b.machine in
        let mem = sym a.memory ∙ ap (λ (r : Ran). r.answer.world.memory) same ∙ ap (memory_above m.end j) b.memory in
        let seen = a.spots ∙ ap (λ (r : Ran). spots_of r.answer.world.picture) same ∙ sym b.spots in
        λ i. record { accepted = accepted i; refusal = number i; machine = machine i; memory = mem i; spots = seen i }

    unread_refused : (refusal memory ≡ 0 → ⊥) → plain other ≡ plain_above m.end j (plain memory)
    unread_refused ne =
        refused other (λ z. ne (sym same_refusal ∙ z))
        ∙ ap (λ (n : ℕ). record { accepted = 0; refusal = n; machine = m; memory = other; spots = spots }) same_refusal
        ∙ ap (plain_above m.end j) (sym (refused memory ne))

pub plain_kept : PlainKept
plain_kept ticks keys randoms m memory spots typed bytes = by (ℕ_discrete (plain_refusal ticks keys randoms m memory spots) 0)
  where
    by : Dec (plain_refusal ticks keys randoms m memory spots ≡ 0) → Keeps m memory spots (plain_run ticks keys randoms m memory spots)
    by (yes e) = kept ticks keys randoms m spots typed memory bytes e
    by (no ne) = rw (refused ticks keys randoms m spots typed memory ne) (record { lit = λ t. t; chosen = refl; above = refl })

pub plain_unread : PlainUnread
plain_unread ticks keys randoms m memory spots typed bytes j small l = by (ℕ_discrete (plain_refusal ticks keys randoms m memory spots) 0)
  where
    by : Dec (plain_refusal ticks keys randoms m memory spots ≡ 0)
        → plain_run ticks keys randoms m (memory_above m.end j memory) spots ≡ plain_above m.end j (plain_run ticks keys randoms m memory spots)
    by (yes e) = unread ticks keys randoms m spots typed memory bytes j small l e
    by (no ne) = unread_refused ticks keys randoms m spots typed memory bytes j small l ne
