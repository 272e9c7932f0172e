-- `firmware::number` meets its contract: a number of at most 13 fits. Assumes nothing.
use Rattle.std.proofs.Common.{◌≡◌, ◌≤◌, ap, arith}
use Rattle.link.specs.Answers.{Answer, number_of}
use Rattle.link.proofs.Answers.{Answered, finished, forged, planned, refusal, answered}
use Rattle.firmware.proofs.number.Goals as goal

at-most-13 : (r : Answer) → Answered r → number_of r ≤ 13
at-most-13 r (finished n k e) = let z : number_of r ≡ 0 = ap number_of e in omega arith
at-most-13 r (forged k e) = let z : number_of r ≡ 7 = ap number_of e in omega arith
at-most-13 r (planned e) = let z : number_of r ≡ 13 = ap number_of e in omega arith
at-most-13 r (refusal most none runs stands) = omega arith

pub overflow_cast-result : goal.overflow_cast-result
overflow_cast-result c = omega (arith, at-most-13 c.args.answer (answered c.args.answer))
