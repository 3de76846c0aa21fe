use Rattle.std.proofs.Common.{refl}
use Rattle.reader.proofs.AcceptedLaws.{read_spelled}
use Rattle.reader.proofs.BackLaws.{reads_back}
use Rattle.reader.proofs.CallLaws.{calls_read_back}
use Rattle.reader.proofs.read.longest.Goals as goal

pub returns : goal.returns
returns c = record { value = refl; spells = read_spelled; back = reads_back; calls = calls_read_back }
