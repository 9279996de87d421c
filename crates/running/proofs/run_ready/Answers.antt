-- The entries work on the machine's parts, which are the whole of it again at the end.
use Rattle.running.proofs.run_ready.Goals as goal

pub run_entries-ran-requires : goal.run_entries-ran-requires
run_entries-ran-requires c = record { ready = rw c.from-c.ensures c.requires.ready; lists = c.requires.randoms_value }

pub returns : goal.returns
returns c = rw (c.whole.ensures, ← c.from-c.ensures) c.run_entries-ran.ensures
