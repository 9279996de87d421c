-- An accepted salvage was handed a sound state and leaves numbers in range, so its image holds them whole; a refused one leaves the image.
use native.Mathlib.Omega.{arith}
use borrow.Author.Tests.{ne_eqb}
use Rattle.rules.proofs.Choices.{by_test}
use Rattle.image.specs.Image.{machine_of, trail_of}
use Rattle.image.proofs.ReadsBack.{comes_back}
use Rattle.imaged.proofs.Chains.{image_typed}
use Rattle.salvage.specs.Salvage.{salvage_refusal, salvaged, salvage}
use Rattle.salvage.proofs.Accepted.{admitted}
use Rattle.salvage.proofs.After.{row_few}
use Rattle.imaged_salvage.specs.Salvaged.{Follows, SalvageChains}

pub salvage_chains : SalvageChains
unfolding salvage
salvage_chains image history list size bytes =
    let m = machine_of image in
    let t = trail_of image in
    by_test (Follows image) (salvage_refusal m t history list) 0
    (λ e. let a = admitted m t history list e in
    let (machine, trail) = comes_back m (salvaged m t history list).trail
    (record {
      typed = image_typed image size bytes;
      sound = a.sound;
      next = omega (arith, a.next, a.most);
      kept = omega (arith, row_few m t history list a, a.most);
      ahead = omega arith;
    }) in
    record { machine = machine; trail = trail })
    (λ ne. let left = ne_eqb (salvage_refusal m t history list) 0 ne in record { machine = rw left; trail = rw left })
