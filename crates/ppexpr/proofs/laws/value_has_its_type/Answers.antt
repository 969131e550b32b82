use Rattle.ppexpr.proofs.Types.{has_its_type}
use Rattle.ppexpr.proofs.RangedTokens.{integer_in_range, character_in_range, tokens_in_range}
use Rattle.ppexpr.proofs.laws.value_has_its_type.Goals as goal

pub returns : goal.returns
returns c = record { type_is = has_its_type; range = tokens_in_range; integers = integer_in_range; characters = character_in_range }
