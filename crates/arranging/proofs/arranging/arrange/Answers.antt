use Rattle.arranging.proofs.StageLaws.{regroup-fit, arranged-shared, alone-fit, arranged-own}
use Rattle.arranging.proofs.arranging.arrange.Goals as goal

pub regroup-encoded-requires : goal.regroup-encoded-requires
regroup-encoded-requires c =
    let q = c.requires in
    let f = q.fits in
    regroup-fit f.axes f.mode q.job c.args.s f.outcome f.mid f.read f.joined c.if-s-eq0.true

pub returns-then-s-eq0 : goal.returns-then-s-eq0
returns-then-s-eq0 c = λ axes mode job o mid r j. arranged-shared axes mode job c.args.s o mid r j c.if-s-eq0.true c.regroup-encoded.ensures

pub own-encoded-requires : goal.own-encoded-requires
own-encoded-requires c =
    let q = c.requires in
    let f = q.fits in
    record { fit = alone-fit f.axes f.mode q.job c.args.s f.outcome f.mid f.read f.joined c.if-s-eq0.false; sets_nonzero = q.some c.if-s-eq0.false }

pub returns : goal.returns
returns c = λ axes mode job o mid r j. arranged-own axes mode job c.args.s o mid r j c.if-s-eq0.false c.own-encoded.ensures
