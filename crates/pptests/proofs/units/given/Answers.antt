use Rattle.std.proofs.Common.{rules, ◌≡◌, length, sym, ◌∙◌}
use Rattle.ppunit.proofs.UnitTest.{unit_of}
use Rattle.pptests.proofs.units.given.Goals as goal

pub preprocess_both-requires-clause-unit : goal.preprocess_both-requires-clause-unit
preprocess_both-requires-clause-unit c =
    let same : c.args.shelf.now.profile ≡ c.args.setting.now.profile = search rules in
    unit_of (length c.args.shelf.now.names) c.args.shelf.now.profile c.args.setting.now.profile c.args.unit.now same
    (sym c.unit_ok.ensures ∙ c.if-not-unit_ok.false)
