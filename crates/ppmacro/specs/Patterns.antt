-- Replacement lists in the form that substitution reads.
use Rattle.std.specs.Prelude.{map}
use Rattle.ppmacro.specs.Entries.{entry_chain}
use Rattle.ppmacro.specs.VaOptChains.{ListChains, Ordinary, WithVaOpt}
use Rattle.ppmacro.specs.declared.patterns.Pattern.{Pattern}
use Rattle.ppmacro.specs.declared.patterns.Pattern.TheVariants.{Plain, Pasted, VaOpt}

-- The chains of a replacement list.
abbrev pub pattern_chains : Pattern → ListChains
pattern_chains (Plain entries) = Ordinary (map entry_chain entries)
pattern_chains (Pasted chains) = Ordinary chains
pattern_chains (VaOpt chains) = WithVaOpt chains
