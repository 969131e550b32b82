use Rattle.std.proofs.Common.{◌≡◌, ℕ, ◌+◌, ◌++◌, [], ◌∷◌, List, true, false, get_or, take, sym, ap, ◌∙◌, subst, arith, cond}
use Rattle.std.specs.List.{list_any}
use Rattle.std.specs.Str.{bytes_eq}
use Rattle.std.proofs.lemmas.List.{take_more}
use Rattle.ppmacro.specs.Names.{Name}
use Rattle.ppmacro.proofs.RepeatedNames.{repeats-next, repeats-all, was_there, was_absent}
use Rattle.ppmacro.proofs.parameter_index.index_names.Goals as goal

pub returns-then-not-new-clause-repeats : goal.returns-then-not-new-clause-repeats
returns-then-not-new-clause-repeats c =
    let names : List Name = c.args.names.now in
    let i : ℕ = c.loop-name.name-index in
    let name : Name = c.as_bytes-bytes.result.now in
    let there : list_any (bytes_eq name) c.loop-name.index.keys ≡ true = was_there c.in-Ok.new _ c.in-Ok.ensures.added c.if-not-new.true in
    let P : List Name → Type 0 = λ ks. list_any (bytes_eq name) ks ≡ true in
    let at : get_or names i c.name-item.result ≡ name = sym c.name-item.is ∙ sym c.as_bytes-bytes.ensures in
    sym (repeats-all names (i + 1) (repeats-next names i c.name-item.result name true (omega arith) at c.loop-name.invariant.1 (subst P c.loop-name.invariant.0 there)))

pub loop-name-preserved : goal.loop-name-preserved
loop-name-preserved c =
    let names : List Name = c.args.names.now in
    let i : ℕ = c.loop-name.name-index in
    let name : Name = c.as_bytes-bytes.result.now in
    let absent : list_any (bytes_eq name) c.loop-name.index.keys ≡ false = was_absent c.in-Ok.new _ c.in-Ok.ensures.added c.if-not-new.false in
    let P : List Name → Type 0 = λ ks. list_any (bytes_eq name) ks ≡ false in
    let at : get_or names i c.name-item.result ≡ name = sym c.name-item.is ∙ sym c.as_bytes-bytes.ensures in
    let keys : c.insert.new.self.keys ≡ c.loop-name.index.keys ++ name ∷ [] = c.in-Ok.ensures.keys ∙ ap (λ b. cond b c.loop-name.index.keys (c.loop-name.index.keys ++ name ∷ [])) absent in (
      keys ∙ ap (λ ks. ks ++ name ∷ []) c.loop-name.invariant.0 ∙ ap (λ n. take i names ++ n ∷ []) (sym at) ∙ sym (take_more names i c.name-item.result (omega arith)),
      repeats-next names i c.name-item.result name false (omega arith) at c.loop-name.invariant.1 (subst P c.loop-name.invariant.0 absent),
      c.insert.ensures.hasher ∙ c.loop-name.invariant.2,
    )
