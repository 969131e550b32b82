use Rattle.std.proofs.Common.{ℕ, leb, cond, refl}
use Rattle.std.proofs.lemmas.Simd.{zip2_splat, length-chunk}
use lib.Lanes.{chunk}
use Rattle.ppserve.proofs.LaneMasks.{itself, joined, splat_is, run_within, run_plain}
use Rattle.ppserve.proofs.formatting.as_is_run.Goals as goal

pub returns-clause-within : goal.returns-clause-within
returns-clause-within c =
    let v = chunk c.args.at 8 c.args.bytes.now in
    let long = length-chunk c.args.at 8 c.args.bytes.now c.requires in
    run_within c.args.bytes.now c.args.at _ _ c.requires c.type_inv.bytes c.first_set.ensures _
    (joined _ _ _ v (joined _ _ _ v (zip2_splat {Y = ℕ} _ v 8 32 long) (joined (λ a b. cond (leb a b) 255 0) _ _ v (splat_is v 8 127 long) (itself v))) (zip2_splat {Y = ℕ} _ v 8 37 long))

pub returns-clause-as_is : goal.returns-clause-as_is
returns-clause-as_is c =
    let v = chunk c.args.at 8 c.args.bytes.now in
    let long = length-chunk c.args.at 8 c.args.bytes.now c.requires in
    run_plain c.args.bytes.now c.args.at _ _ c.requires c.type_inv.bytes c.first_set.ensures _
    (joined _ _ _ v (joined _ _ _ v (zip2_splat {Y = ℕ} _ v 8 32 long) (joined (λ a b. cond (leb a b) 255 0) _ _ v (splat_is v 8 127 long) (itself v))) (zip2_splat {Y = ℕ} _ v 8 37 long)) refl
