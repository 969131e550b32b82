use Rattle.std.proofs.Common.{◌≡◌, Err, refl, ap}
use Rattle.std.specs.FinMap as table
use Rattle.ppmacro.specs.Define.{check_define, insert_definition}
use Rattle.pptext.proofs.ErrorReturns.{raised}
use Rattle.ppmacro.proofs.TableFreeDefinitions.{fault-first}
use Rattle.ppmacro.proofs.define_lines.define_line.Goals as goal

pub returns-in-Some-Err-clause-defined : goal.returns-in-Some-Err-clause-defined
returns-in-Some-Err-clause-defined c =
    let m = c.args.table.now.macros in
    let p = c.args.profile in
    let line = c.args.line in
    let is : check_define p table.empty line.at line.tokens ≡ Err c.in-Some-Err.fault.now = rw c.in-Some-Err.field-0-is at c.in-Some-Err.ensures in
    raised _ _ _ c.refuse.ensures (ap (insert_definition m) (fault-first p m line.at line.tokens c.in-Some-Err.fault.now is), refl)
