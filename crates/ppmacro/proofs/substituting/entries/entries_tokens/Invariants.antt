use Rattle.std.proofs.Common.{◌≡◌, drop, map, true}
use Rattle.pptext.specs.declared.tokens.Place.{Place}
use Rattle.ppmacro.specs.HideSets.{hidings, AllKnown}
use Rattle.ppmacro.specs.Entries.{entry_chain}
use Rattle.ppmacro.specs.Substitution.{chains_tokens}
use Rattle.ppmacro.specs.Substituting.{arguments_in}
use Rattle.ppmacro.proofs.ChainReplacementLemmas.{marked_behind}
use Rattle.ppmacro.proofs.substituting.entries.entries_tokens.Given as goal

abbrev pub invariant-loop-index : goal.invariant-loop-index
invariant-loop-index l = record {
  same : (used : Place) → marked_behind (hidings l.sets l.tokens.items)
      (chains_tokens (arguments_in l.sets l.arguments.given.now l.arguments.expanded.now) used l.pending l.first (map entry_chain (drop l.index l.list)))
      ≡ chains_tokens (arguments_in l.sets l.arguments.given.now l.arguments.expanded.now) used l.space true (map entry_chain l.list);
  tokens_known : AllKnown l.sets l.tokens.items;
}
