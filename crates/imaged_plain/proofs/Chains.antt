-- An admitted run hands back a state that its image holds whole, and a refused one leaves the image.
use mathlib.Core.Path.{refl, sym}
use mathlib.Core.List.{List}
use Prim.Native.Nat.{ℕ, ◌+◌, ◌<◌}
use native.Mathlib.Omega.{arith}
use Rattle.rules.specs.Record.{byte_at, word_at}
use Rattle.rules.proofs.Choices.{by_test}
use Rattle.rules.proofs.Parts.{below_get}
use Rattle.rules.proofs.Sound.{good_sound}
use Rattle.image.specs.Image.{machine_of, trail_of}
use Rattle.image.proofs.ReadsBack.{comes_back}
use Rattle.imaged.proofs.Chains.{image_typed}
use Rattle.plain.specs.Plain.{plain_refusal}
use Rattle.plain.proofs.Entries.{run_good, run_end, good_typed}
use Rattle.imaged_plain.specs.PlainOn.{plain_of, Follows, PlainChains}
use Rattle.imaged_plain.proofs.Seen.{refused_machine}

pub plain_chains : PlainChains
unfolding trail_of
plain_chains ticks keys randoms image memory spots size bytes small =
    by_test
    (λ (written : List ℕ). Follows image (plain_of ticks keys randoms image memory spots)
    (record {
      refusal = (plain_of ticks keys randoms image memory spots).refusal;
      image = written;
      memory = (plain_of ticks keys randoms image memory spots).memory;
      spots = (plain_of ticks keys randoms image memory spots).spots;
    })) (plain_refusal ticks keys randoms (machine_of image) memory spots) 0
    (λ e. let good = run_good ticks keys randoms (machine_of image) memory spots (image_typed image size bytes) small e in
    let byte : (k : ℕ) → byte_at image k < 256 = λ k. below_get (omega arith) bytes k in
    let two : (k : ℕ) → word_at image k < 65536 = λ k. omega (arith, byte k, byte (k + 1)) in
    let (machine, trail) = comes_back _ (trail_of image)
    (record { typed = good_typed good; sound = good_sound _ good (run_end ticks keys randoms (machine_of image) memory spots e); next = two 48; kept = two 50; ahead = two 54 }) in
    record { machine = machine; trail = trail })
    (λ ne. record { machine = sym (refused_machine ticks keys randoms image memory spots ne); trail = refl })
