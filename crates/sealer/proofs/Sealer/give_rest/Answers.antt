-- `sealer::Sealer::give_rest` meets its contract: no more than 32 bytes are kept. Assumes nothing.
use Rattle.std.proofs.Common.{arith}
use Rattle.sealer.proofs.Verdicts.{keeps_most}
use Rattle.sealer.proofs.Sealer.give_rest.Goals as goal

pub end-runs-requires : goal.end-runs-requires
end-runs-requires c =
    let most = keeps_most c.args.self.fed in
    record { held_bound = (omega arith, (omega arith, omega arith)) }
