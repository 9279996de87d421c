-- The place that was lent comes back as the record, and the rest of the history stands as it was.
use Prim.Native.Nat.{◌*◌}
use Rattle.keeping.proofs.Inside.{lent_place}
use Rattle.keeping.proofs.keep.Goals as goal

pub returns : goal.returns
returns c =
    let cut = c.split_at_mut-rest.ensures in
    rw (c.write.ensures, c.split_at_mut-place.ensures.back) (lent_place _ _ _ _ (292 * c.args.next) 292 cut.front cut.back)
