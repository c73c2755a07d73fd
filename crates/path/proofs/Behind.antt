-- Behind a whole flag, what is due is what is due in that flag and the bits after it, by themselves.
use Rattle.std.proofs.Common.{◌≡◌, ℕ, ◌+◌, ◌-◌, ◌<◌, ◌≤◌, List, [], ◌++◌, map, length, sym, ◌∙◌, subst, append_assoc, arith, length-append}
use Rattle.cutting.specs.Cutting.{Bits, flag, Verdict, Due, Placed, AllDue, no_more, next}
use Rattle.cutting.proofs.Prefix.{due-front}
use Rattle.cutting.proofs.Local.{local_to, local_from}
use Rattle.cutting.proofs.Members.{all_in}
use Rattle.cutting.proofs.Scan.{scan, scan_cuts, all_one}
use Rattle.cutting.proofs.Scanner.{lost}
use Rattle.receiver.specs.Listening.{Still}
use Rattle.path.specs.Runs.{later, SameBehind}
use Rattle.path.proofs.Joins.{all_later, all_join, all_within}

-- nothing is due in the flag itself
flag_still : (rest : Bits) → Still (flag ++ rest) 0 8
flag_still rest e v lo hi d = (all_in flag [] (scan_cuts flag) (record { place = e; verdict = v })).1 (due-front flag rest e v hi d)

module _ (pre rest : Bits) where
  moved_to : (e : ℕ) (v : Verdict) → length pre + 8 < e → Due (pre ++ (flag ++ rest)) e v → Due (flag ++ rest) (e - length pre) v
  moved_to e v h d =
      let z : e ≡ length pre + (e - length pre) = omega arith in
      local_to pre rest (e - length pre) v (omega arith) (subst (λ (x : ℕ). Due (pre ++ (flag ++ rest)) x v) z d)

  all_moved : (n : ℕ) (own : List Placed) → 8 ≤ n → AllDue (flag ++ rest) n own → AllDue (pre ++ (flag ++ rest)) (length pre + n) (map (later (length pre)) own)
  all_moved n _ le (no_more f) = no_more (λ e v lo d. f (e - length pre) v (omega arith) (moved_to e v (omega arith) d))
  all_moved n _ le (next {l = own} x lo d g r) =
      next (later (length pre) x) (omega arith) (local_from pre rest x.place x.verdict (omega arith) d)
      (λ k w a b c. g (k - length pre) w (omega arith) (omega arith) (moved_to k w (omega arith) c))
      (all_moved x.place own (omega arith) r)

  pub same-behind : (s : Bits) (verdicts own : List Placed) → s ≡ pre ++ (flag ++ rest) → AllDue s 0 verdicts → AllDue (flag ++ rest) 0 own → SameBehind (length pre) verdicts own
  same-behind s verdicts own is all mine =
      let before = scan lost 0 (pre ++ flag) in
      let long : length (pre ++ flag) ≡ length pre + 8 = length-append pre flag in
      let regroup : pre ++ (flag ++ rest) ≡ (pre ++ flag) ++ rest = sym (append_assoc pre flag rest) in
      let moved = all_moved 8 own (omega arith) (all_later (flag ++ rest) 0 8 (flag_still rest) own (omega arith) mine) in
      let behind : AllDue ((pre ++ flag) ++ rest) (length (pre ++ flag)) (map (later (length pre)) own) = rw (sym regroup, long) moved in
      let whole = all_join (pre ++ flag) rest 0 before (map (later (length pre)) own) (omega arith) (scan_cuts (pre ++ flag)) behind in (
        before,
        all_one ((pre ++ flag) ++ rest) 0 verdicts (before ++ map (later (length pre)) own) (subst (λ (x : Bits). AllDue x 0 verdicts) (is ∙ regroup) all) whole,
        all_within (pre ++ flag) 0 (length pre + 8) before (omega arith) (scan_cuts (pre ++ flag)),
      )
