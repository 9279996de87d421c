-- The tests of the code are the tests of the definition, change by change; a sum of two numbers of 16 bits fits.
use Rattle.damage.proofs.is_allowed.Goals as goal

pub returns-in-InMemory : goal.returns-in-InMemory
returns-in-InMemory c = rw c.in-InMemory.is

pub returns-in-InPicture : goal.returns-in-InPicture
returns-in-InPicture c = rw c.in-InPicture.is
