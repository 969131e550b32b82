use Rattle.pptext.proofs.Guards.{guard_found}
use Rattle.pptext.proofs.grouping.source_of.Goals as goal

pub guard_token-guard-requires : goal.guard_token-guard-requires
guard_token-guard-requires c = rw (c.as_slice.ensures.value, c.as_slice-2.ensures.value) c.requires.are_lines

pub invariant_of-result : goal.invariant_of-result
invariant_of-result c = (
  c.requires.are_lines.0,
  c.requires.are_lines.1,
  c.requires.are_lines.2,
  guard_found c.args.tokens.items c.as_slice.result.now c.args.lines.items c.as_slice-2.result.now c.guard_token-guard.result c.as_slice.ensures.value
      c.as_slice-2.ensures.value c.requires.are_lines.2 c.requires.no_fault c.guard_token-guard.ensures.none c.guard_token-guard.ensures.some,
)
