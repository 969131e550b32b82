use Rattle.std.proofs.Common.{◌≡◌, ◌++◌, List, map}
use Rattle.pptext.specs.declared.tokens.Token.{Token}
use Rattle.ppmacro.specs.Chains.{ChainPart, group_parts}
use Rattle.ppmacro.specs.code.ChainParts.{append_parts}
use Rattle.ppmacro.specs.code.KeptChains.{chains_at, part_at}
use Rattle.ppmacro.proofs.chains.group_parts.Given as goal

abbrev pub invariant-loop-part : goal.invariant-loop-part
invariant-loop-part l = (body : List Token) (ps : List ChainPart) → append_parts l.joined (chains_at body l.chains.items) ps ≡ group_parts (map (part_at body) l.yielded ++ ps)
