use Rattle.looking.proofs.LookLaws.{look-read, look-arrange, look-first, look-second, look-both}
use Rattle.looking.proofs.SeenLaws.{reason-fit}
use native.Mathlib.Omega.{arith}
use borrow.Author.Rules.{rules}
use Rattle.looking.proofs.closing.look_stage.Goals as goal

pub arrange-k-requires : goal.arrange-k-requires
arrange-k-requires c = look-arrange c.requires

pub returns-then-e-first : goal.returns-then-e-first
returns-then-e-first c = λ axes job o mid r j. look-first (c.arrange-k.ensures axes 0 job o mid r j) _ _ (omega arith)

pub returns-then-e-second : goal.returns-then-e-second
returns-then-e-second c = λ axes job o mid r j. look-second (c.arrange-k.ensures axes 0 job o mid r j) _ _ (omega arith) (omega arith)

pub reason_of-requires : goal.reason_of-requires
reason_of-requires c =
    let f = c.requires in
    reason-fit (c.arrange-k.ensures f.fits.axes 0 f.job f.fits.outcome f.fits.mid (look-read f) f.fits.joined) (λ i. omega (arith, c.slice_known-2-1.given i)) _ _ (omega arith) (omega arith)

pub returns : goal.returns
returns c = λ axes job o mid r j. look-both (c.arrange-k.ensures axes 0 job o mid r j) _ _ (omega arith) (omega arith) _ c.reason_of.ensures
