use mathlib.Core.Path.{refl}
use Rattle.glyphs.proofs.AnswerLaws.{Sized, sized, short-answer, short-left, done-answer, done-left}
use native.Mathlib.Omega.{arith}
use Rattle.glyphs.proofs.write.write_glyphs.Goals as goal

pub returns-then-out-bytes : goal.returns-then-out-bytes
returns-then-out-bytes c =
    let sizes : Sized c.args.words.now c.inner_bits-bits.result c.bytes_for-size.result c.kept-count.result c.head_size-at.result = sized _ c.together-all.result _ c.entry.result _ _ _ c.together-all.ensures c.inner_bits-bits.ensures.value c.entry.ensures c.bytes_for-size.ensures.value c.kept-count.ensures.value c.head_size-at.ensures.value in
    record { value = short-answer _ c.args.out.now (omega arith) _ _ _ _ (sizes) c.if-out-bytes.true; out_after = short-left _ _ (omega arith) _ _ _ _ (sizes) c.if-out-bytes.true }

pub returns : goal.returns
returns c =
    let sizes : Sized c.args.words.now c.inner_bits-bits.result c.bytes_for-size.result c.kept-count.result c.head_size-at.result = sized _ c.together-all.result _ c.entry.result _ _ _ c.together-all.ensures c.inner_bits-bits.ensures.value c.entry.ensures c.bytes_for-size.ensures.value c.kept-count.ensures.value c.head_size-at.ensures.value in
    record { value = done-answer _ c.args.out.now (omega arith) _ _ _ _ (sizes) c.if-out-bytes.false; out_after = done-left _ _ (omega arith) _ _ _ _ (sizes) c.if-out-bytes.false _ _ _ _ refl c.write_head.ensures c.write_entries.ensures }
