-- Answers: the verdict that each is, and the number of the refusal of a call.
use Rattle.std.specs.Prelude.{ℕ, List, take, Some, None, Option}
use Rattle.cutting.specs.Cutting.{Verdict, aborted, refused, frame}
use Rattle.receiver.specs.declared.answer.Answer.{Answer}
use Rattle.receiver.specs.declared.answer.Answer.TheVariants.{Aborted, Refused, Frame, Paused, Dry}
use Rattle.receiver.specs.declared.answer.ListenError.{ListenError}
use Rattle.receiver.specs.declared.answer.ListenError.TheVariants.{ShortBuffer}

abbrev pub error_number : ListenError → ℕ
error_number ShortBuffer = 1

-- the verdict that an answer is, given the octets beside it; paused and dry are none
abbrev pub verdict_of : Answer → List ℕ → Option Verdict
verdict_of Aborted octets = Some aborted
verdict_of (Refused f) octets = Some (refused f)
verdict_of (Frame n) octets = Some (frame (take n octets))
verdict_of Paused octets = None
verdict_of Dry octets = None
