use Rattle.std.proofs.Common.{◌≡◌, Some, None, IfSome, map, ap, sym}
use Rattle.std.specs.Option.{option_copied}
use Rattle.ppmacro.specs.Chains.{chains_of}
use Rattle.ppmacro.specs.PasteFree.{lone_chain, lone_tokens}
use Rattle.ppmacro.specs.declared.macros.Macro.{Macro}
use Rattle.ppexpand.proofs.lone_steps.lone_body.Goals as goal

pub returns-clause-lone : goal.returns-clause-lone
returns-clause-lone c =
    let m : Macro = c.in_ok-named.field-0.now in
    elim c.lone_tokens.result as (λ o. option_copied o ≡ lone_tokens m → IfSome o (λ body. chains_of m ≡ map lone_chain body.now)
    → IfSome o (λ body. (x : Macro) × (option_copied c.args.named ≡ Some x) × (lone_tokens x ≡ Some body.now) × (chains_of x ≡ map lone_chain body.now))) [
      | Some body ↦ λ is chains. (m, ap option_copied c.in_ok-named.was, sym is, chains)
      | None ↦ λ is chains. tt
    ] c.lone_tokens.ensures.is c.lone_tokens.ensures.chains
