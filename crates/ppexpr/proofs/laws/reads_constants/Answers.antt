use Rattle.ppexpr.proofs.ReadCharacters.{character_laid_out, character_read}
use Rattle.ppexpr.proofs.ReadIntegers.{integer_laid_out, integer_read}
use Rattle.ppexpr.proofs.laws.reads_constants.Goals as goal

pub returns : goal.returns
returns c = record {
  integers = λ s v. (integer_laid_out s v, integer_read s v);
  characters = λ s v spelled. (character_laid_out s v spelled, character_read s v);
}
