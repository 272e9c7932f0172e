-- `powers::power` calls itself. The number is the measure: its half is less.
use Rattle.powers.proofs.+power.Given as goal

abbrev pub decreases-power : goal.decreases-power
decreases-power l = l.n
