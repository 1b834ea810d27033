-- A report's sixteen words are all written (specs/Answers.antt). Assumes nothing.
use mathlib.Core.Path.{◌≡◌, refl, sym, ap, ◌∙◌}
use mathlib.Core.List.{List, [], ◌∷◌, ◌++◌, append-nil}
use Prim.Native.Nat.{ℕ, suc, ◌+◌, ◌<◌}
use native.Mathlib.Omega.{arith}
use lib.ListN.{length, get_or, set, take, length-set}
use lib.Seq.{take_all, take-suc-set, append_snoc}
use Rattle.said.specs.Records.{must_be_zero, first_not_zero, first_wrong_byte}
use Rattle.said.specs.Refusals.{not_zero, byte_of}
use Rattle.finishing.specs.Answers.{Built}
use Rattle.finishing.specs.Answers as built
use Rattle.reporting.specs.Answers.{byte_told, refused_words, done_words, report_words, filled}

-- words put over the last ones leave those before
filled-end : (k : ℕ) (l old : List ℕ) → length old ≡ k + length l → filled k l old ≡ take k old ++ l
unfolding filled
filled-end k [] old e = sym (append-nil (take k old) ∙ take_all k old (omega arith))
filled-end k (x ∷ l) old e =
    let h : k < length old = omega arith in
    let n : length (set old k x) ≡ k + 1 + length l = omega (arith, length-set old k x) in
    let s : k + 1 ≡ suc k = omega arith in
    filled-end (k + 1) l (set old k x) n
    ∙ ap (λ (j : ℕ). take j (set old k x) ++ l) s
    ∙ ap (λ (t : List ℕ). t ++ l) (take-suc-set old k x h)
    ∙ append_snoc (take k old) x l

-- as many words as there are
pub filled-all : (l old : List ℕ) → length old ≡ length l → filled 0 l old ≡ l
filled-all l old e = filled-end 0 l old (omega (arith, e))

-- a refusal's words, of any number
pub refused-filled : (n at byte : ℕ) (old : List ℕ) → length old ≡ 16 → filled 0 (refused_words n at byte) old ≡ refused_words n at byte
unfolding refused_words
refused-filled n at byte old e = filled-all (n ∷ at ∷ 0 ∷ 0 ∷ 0 ∷ 0 ∷ 0 ∷ 0 ∷ 0 ∷ 0 ∷ 0 ∷ 0 ∷ byte ∷ 0 ∷ 0 ∷ 0 ∷ []) old e

words-sixteen : (job : List ℕ) (b : Built) → length (report_words job b) ≡ 16
unfolding report_words refused_words done_words
words-sixteen job (built.Refused n at) = refl
words-sixteen job (built.Done d) = refl

-- word 12 is the byte
pub word-twelve : (job : List ℕ) (b : Built) → get_or (report_words job b) 12 0 ≡ byte_told job b
unfolding report_words refused_words done_words byte_told
word-twelve job (built.Refused n at) = refl
word-twelve job (built.Done d) = refl

-- a value record whose last byte is 1 is refused by 31, and the report says byte 11
worked : report_words (2 ∷ 0 ∷ 0 ∷ 0 ∷ 0 ∷ 0 ∷ 0 ∷ 5 ∷ 0 ∷ 0 ∷ 0 ∷ 1 ∷ []) (built.Refused not_zero 0) ≡ 31 ∷ 0 ∷ 0 ∷ 0 ∷ 0 ∷ 0 ∷ 0 ∷ 0 ∷ 0 ∷ 0 ∷ 0 ∷ 0 ∷ 11 ∷ 0 ∷ 0 ∷ 0 ∷ []
unfolding report_words refused_words byte_told byte_of first_wrong_byte first_not_zero must_be_zero
worked = refl

-- THE LAW, of any sixteen words
pub sixteen : (job : List ℕ) (b : Built) (old : List ℕ) → length old ≡ 16 → filled 0 (report_words job b) old ≡ report_words job b
sixteen job b old e = filled-end 0 (report_words job b) old (omega (arith, words-sixteen job b))
