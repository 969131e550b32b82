use Rattle.std.proofs.Common.{◌≡◌, ◌++◌, [], None, sym, ap, subst, map, refl, rules}
use Rattle.std.proofs.lemmas.List.{nil_from_length}
use Rattle.ppmacro.specs.Substitution.{unhidden}
use Rattle.ppexpand.specs.Expansion.{ExpandsTo, stops_with}
use Rattle.ppexpand.proofs.SkippedTokens.{expands-nothing, expansion-following, expansion-of_rest}
use Rattle.ppexpand.proofs.expansion.expand.Goals as goal

pub returns-then-is_empty : goal.returns-then-is_empty
returns-then-is_empty c =
    let prefix = c.split_unexpanded.result.0.now in
    let rest = c.split_unexpanded.result.1.now in
    let none : rest ≡ [] = nil_from_length rest (search rules) in
    let macros = c.args.table.now.macros in
    let env = c.args.env.now in
    let meter = c.args.meter.now in
    let split = c.split_unexpanded.ensures in
    expansion-following macros env meter c.args.tokens.now prefix rest _ (stops_with meter None) split.laid_out split.unexpanded
    (subst (λ ts. ExpandsTo macros env 0 meter (map unhidden ts) (stops_with meter None)) (sym none) (expands-nothing macros env 0 meter))
    (ap (λ ts. prefix ++ ts) c.clear.ensures)
    refl
    refl

pub returns : goal.returns
returns c =
    let split = c.split_unexpanded.ensures in
    expansion-of_rest c.args.table.now.macros c.args.env.now c.args.meter.now c.args.tokens.now c.split_unexpanded.result.0.now c.split_unexpanded.result.1.now _
    split.laid_out split.unexpanded c.in_ok-fault.ensures
