-- The library's play of the world that the image stands for; the image is left only where the play's own tests refuse it. What the library
-- tells of the state that it hands back is told of the image, which stands for that state.
use mathlib.Core.Path.{sym, subst}
use Rattle.rules.specs.World.{World}
use Rattle.rules.specs.Run.{play, play_refusal}
use Rattle.rules.specs.Past.{PlayTells}
use Rattle.rules.specs.Rows.{bytes_of}
use Rattle.rules.proofs.Parts.{below_of}
use Rattle.rules.proofs.Turning.{bytes_below}
use Rattle.imaged.specs.Imaged.{world_of, Lent}
use Rattle.imaged.proofs.Laws.{play_sound, play_left, seen_list}
use Rattle.imaged.proofs.Chains.{play_stands}
use Rattle.imaged_lists.proofs.play.Goals as goal

pub returns : goal.returns
returns c =
    let played = rw (c.read.ensures.0, c.read.ensures.1) at c.play-outcome.ensures in
    let a = c.args in
    let lent : Lent a.image.now a.memory.now (bytes_of a.rows.now) a.history.now =
    record {
      size = c.told-image;
      image = below_of a.image.now (λ i h. c.fits-image i);
      memory = below_of a.memory.now (λ i h. (c.slice_known-1.given i).fits);
      picture = bytes_below a.rows.now;
      history = below_of a.history.now (λ i h. (c.slice_known-3-1.given i).fits);
    } in
    let moves = a.moves.now in
    let keys = a.keys.now in
    let randoms = a.randoms.now in
    let w = world_of a.image.now a.memory.now (bytes_of a.rows.now) a.history.now in
    let leaves = seen_list a.image.now a.memory.now (bytes_of a.rows.now) a.history.now lent.size lent.image
    (play_refusal moves keys randoms w) (play moves keys randoms w) (play_sound moves keys randoms w) (play_left moves keys randoms w)
    _ _ _ _ _ _ _ _ played.gives c.after_list.ensures.0 c.after_list.ensures.1 in
    record {
      leaves = leaves;
      play_tells = subst (λ (v : World). PlayTells moves keys randoms w v)
          (sym (play_stands moves keys randoms _ _ _ _ lent _ _ _ _ _ _ _ _ played.gives leaves)) played.play_tells;
    }
