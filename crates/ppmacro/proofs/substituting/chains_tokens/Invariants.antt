use Rattle.std.proofs.Common.{◌≡◌, drop, true}
use Rattle.ppmacro.specs.HideSets.{hidings, AllKnown, KeepsSets}
use Rattle.ppmacro.specs.Substitution.{chains_tokens}
use Rattle.ppmacro.specs.Substituting.{arguments_in}
use Rattle.ppmacro.proofs.ChainReplacementLemmas.{marked_behind}
use Rattle.ppmacro.proofs.substituting.chains_tokens.Given as goal

abbrev pub invariant-loop-index : goal.invariant-loop-index
invariant-loop-index l = record {
  same : marked_behind (hidings l.sets l.tokens.items)
      (chains_tokens (arguments_in l.initial.sets l.arguments.given.now l.arguments.expanded.now) l.used l.pending l.first (drop l.index l.chains))
      ≡ chains_tokens (arguments_in l.initial.sets l.arguments.given.now l.arguments.expanded.now) l.used l.space true l.chains;
  tokens_known : AllKnown l.sets l.tokens.items;
  keeps : KeepsSets l.initial.sets l.sets;
}
