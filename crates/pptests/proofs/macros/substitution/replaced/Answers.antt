use Rattle.std.proofs.Common.{◌∙◌}
use Rattle.ppmacro.proofs.ArgumentLemmas.{all-known}
use Rattle.pptests.proofs.macros.substitution.replaced.Goals as goal

pub substituted-requires-clause-arguments : goal.substituted-requires-clause-arguments
substituted-requires-clause-arguments g c =
    all-known c.in_ok-given.given.items c.in_ok-lists_of.field-0.items c.as_slice-given.result.now c.as_slice-expanded.result.now
    c.as_slice-given.ensures.value (c.as_slice-expanded.ensures.value ∙ c.in_ok-expanded.ensures) c.in_ok-given.ensures c.in_ok-lists_of.ensures
