-- The room that is foretold is enough for a frame's bits.
use Rattle.std.proofs.Common.{◌≡◌, ℕ, ◌+◌, ◌*◌, ◌/◌, ◌≤◌, List, ◌++◌, length, refl, ap, ◌∙◌, subst, arith, length-append}
use Rattle.bits.specs.Octets.{sent}
use Rattle.bits.proofs.Sent.{length-sent}
use Rattle.fcs.specs.Sequence.{trailer}
use Rattle.fcs.proofs.Bounds.{length-trailer}
use Rattle.cutting.specs.Cutting.{Bits, flag}
use Rattle.cutting.specs.Stuffing.{stuffed, frame_bits}
use Rattle.cutting.proofs.Stuffs.{stuffed-length}
use Rattle.writer.specs.Writing.{foretold}

pub foretold_is : (n : ℕ) → foretold n ≡ 16 + 8 * (n + 2) + 8 * (n + 2) / 5
unfolding foretold
foretold_is n = refl

pub foretold_enough : (os : List ℕ) → length (frame_bits os) ≤ foretold (length os)
foretold_enough os =
    let all : List ℕ = os ++ trailer os in
    let bits : Bits = sent all in
    let a = length-append os (trailer os) in
    let b = length-trailer os in
    let c : length bits ≡ 8 * length all = length-sent all in
    let d = stuffed-length bits in
    let e : length (frame_bits os) ≡ 8 + length (stuffed bits ++ flag) = length-append flag (stuffed bits ++ flag) in
    let f : length (stuffed bits ++ flag) ≡ length (stuffed bits) + 8 = length-append (stuffed bits) flag in
    let g = foretold_is (length os) in
    omega arith

-- with a header of nine octets
pub foretold_room : (h i : List ℕ) → length h ≡ 9 → length (frame_bits (h ++ i)) ≤ foretold (9 + length i)
foretold_room h i nine =
    let long : length (h ++ i) ≡ 9 + length i = length-append h i ∙ ap (λ (n : ℕ). n + length i) nine in
    let P : ℕ → Type 0 = λ n. length (frame_bits (h ++ i)) ≤ foretold n in
    subst P long (foretold_enough (h ++ i))
