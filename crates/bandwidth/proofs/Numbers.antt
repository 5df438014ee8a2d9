-- The numbers of an answer tell which it is. Assumes nothing.
use Rattle.std.proofs.Common.{◌≡◌, cond, Result, Ok, Err, ◌==◌, refl, sym, ap, ◌∙◌}
use Rattle.bandwidth.specs.declared.free.Free.{Free as Left}
use Rattle.bandwidth.specs.Free.{Free, Unanswered, RateTooHigh, LevelTooLow, Behind, free_as}

-- The answer that these are the numbers of.
abbrev answer_of : Free → Result Left Unanswered
answer_of x =
    cond (x.result == 0) (Ok (record { ringlet0 = x.ringlet0; ringlet1 = x.ringlet1 }))
    (Err (cond (x.result == 4) RateTooHigh (cond (x.result == 32) LevelTooLow (Behind x.address))))

same_answer : (r : Result Left Unanswered) → answer_of (free_as r) ≡ r
same_answer (Ok x) = refl
same_answer (Err RateTooHigh) = refl
same_answer (Err LevelTooLow) = refl
same_answer (Err (Behind address)) = refl

-- Two answers of the same numbers are the same answer.
pub answers_told_apart : (r s : Result Left Unanswered) → free_as r ≡ free_as s → r ≡ s
answers_told_apart r s e = sym (same_answer r) ∙ ap answer_of e ∙ same_answer s
