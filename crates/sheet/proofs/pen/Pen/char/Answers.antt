use Rattle.std.proofs.Common.{refl, length-set}
use Rattle.sheet.proofs.PutLaws.{put_char}
use Rattle.sheet.proofs.pen.Pen.char.Goals as goal

pub returns : goal.returns
returns c = record { same = refl; put = put_char _ _ c.args.char c.requires; size = length-set _ _ _ }
