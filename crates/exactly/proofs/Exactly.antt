-- For each refusal number, exactly when it is the reply. It rests on the operations' contracts alone. No axiom is used.
use Rattle.exactly.specs.Exactly.{Exactly}
use Rattle.exactly.proofs.PowerUp.{power-up}
use Rattle.exactly.proofs.Replay.{replay}
use Rattle.exactly.proofs.ReadImage.{read-image}
use Rattle.exactly.proofs.WriteImage.{write-image}

-- The claim: the whole table.
pub exactly : Exactly
exactly = record { power-up = power-up; replay = replay; read-image = read-image; write-image = write-image }
