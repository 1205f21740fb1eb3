use Rattle.std.proofs.Common.{length}
use Rattle.station.proofs.arguments.options_of.Given as goal

abbrev pub decreases-loop-word : goal.decreases-loop-word
decreases-loop-word l = length l.args.rest.items
