use Rattle.ppmacro.proofs.VaOptReading.{separates}
use Rattle.ppmacro.proofs.laws.reads_va_opt.Goals as goal

pub returns : goal.returns
returns c = separates
