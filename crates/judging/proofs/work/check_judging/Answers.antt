use Rattle.refusals.proofs.Numbers.{some_number}
use Rattle.refusals.proofs.Passing.{passed}
use Rattle.judging.proofs.WorkLaws.{words_of, judge-first, judge-short, judge-passed, judge-open}
use native.Mathlib.Omega.{arith}
use Rattle.judging.proofs.work.check_judging.Goals as goal

pub returns-in_err-check_early : goal.returns-in_err-check_early
returns-in_err-check_early c =
    rw (passed c.from_residual.result c.from_residual.ensures.1)
    (record { value = judge-first _ _ _ _ _ c.in_err-check_early.ensures.value (some_number c.in_err-check_early.field-0.0); judge_open = tt })

pub returns-then-work-store : goal.returns-then-work-store
returns-then-work-store c = record { value = judge-short _ _ _ _ c.in_ok-check_early.ensures.fact (omega arith); judge_open = tt }

pub returns-then-work-store-2 : goal.returns-then-work-store-2
returns-then-work-store-2 c =
    let a = c.args in
    let o = c.in_ok-check_early.ensures.fact in
    let e = words_of a.axes a.job.now _ _ _ c.records_in.ensures c.head_regions.ensures o.few c.work_words-words.ensures in
    record { value = judge-short _ _ _ _ o (omega (arith, e)); judge_open = tt }

pub returns : goal.returns
returns c =
    let a = c.args in
    let o = c.in_ok-check_early.ensures.fact in
    let e = words_of a.axes a.job.now _ _ _ c.records_in.ensures c.head_regions.ensures o.few c.work_words-words.ensures in
    record { value = judge-passed _ _ _ _ o (omega (arith, e)); judge_open = judge-open _ _ _ _ o (omega (arith, e)) }
