-- What the calls on a sheet leave in a memory is read back.
-- Assumes nothing.
use Rattle.std.proofs.Common.{ℕ, Ok, ap, ◌∙◌}
use Rattle.sheet.proofs.TurnLaws.{text_in_turn, text_at_once}
use Rattle.reader.specs.Back.{CallsReadBack}
use Rattle.reader.specs.Reading.{heading_of, read}
use Rattle.reader.proofs.BackLaws.{reads_back}

pub calls_read_back : (places : ℕ) → CallsReadBack places
calls_read_back places =
    record {
      in_turn = λ m n i o r len cs w words room.
          let t = text_in_turn m n i o r len cs w in
          ap (read places) t.is ∙ reads_back places i o cs t.range t.keep words room
          ∙ ap (λ k. Ok (record { heading = heading_of i o k; products = cs })) t.count;
      at_once = λ m i o len cs e words room.
          let t = text_at_once m i o len cs e in
          ap (read places) t.is ∙ reads_back places i o cs t.range t.keep words room;
    }
