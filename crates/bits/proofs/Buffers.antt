-- A buffer that is written from its front, octet by octet.
use Rattle.std.proofs.Common.{◌≡◌, ℕ, ◌+◌, ◌<◌, ◌≤◌, List, [], ◌∷◌, ◌++◌, length, get_or, drop, set, sym, refl, ap, ◌∙◌, append_assoc, arith, length-append, length-drop}
use Rattle.std.proofs.lemmas.List.{drop_more, set_at, length_push}
use Rattle.bits.specs.Buffers.{over}

-- one octet more
pub over_more : (done old : List ℕ) (x : ℕ) → length done < length old → set (over done old) (length done) x ≡ over (done ++ x ∷ []) old
over_more done old x room =
    ap (λ l. set (done ++ l) (length done) x) (drop_more old (length done) 0 room)
    ∙ set_at done (get_or old (length done) 0) (drop (length done + 1) old) x (length done) refl
    ∙ sym (append_assoc done (x ∷ []) (drop (length done + 1) old))
    ∙ ap (λ n. (done ++ x ∷ []) ++ drop n old) (sym (length_push done x))

pub length_over : (done old : List ℕ) → length done ≤ length old → length (over done old) ≡ length old
length_over done old room = length-append done (drop (length done) old) ∙ rw (length-drop (length done) old) (omega arith)
