use Rattle.std.proofs.Common.{◌≡◌, ◌++◌, ◌∙◌, ℕ, List, [], take, ap, Option, Some, None}
use Rattle.std.specs.Option.{IfSome, option_map}
use Rattle.ppshelf.proofs.dir_disk.read_up_to_limit.Goals as goal

-- A reader with a limit returns the first bytes of the file, up to the limit.
start_of : (left all : Option (List ℕ)) (bytes before : List ℕ) (limit most : ℕ)
    → left ≡ all
    → before ≡ []
    → limit ≡ most
    → IfSome (option_map (take limit) left) (λ xs. bytes ≡ before ++ xs)
    → IfSome all (λ xs. bytes ≡ take most xs)
start_of left None bytes before limit most same none is h = tt
start_of None (Some xs) bytes before limit most same none is h = cc
start_of (Some ys) (Some xs) bytes before limit most same none is h =
    let e : ys ≡ xs = cc in
    h ∙ (ap (λ (b : List ℕ). b ++ take limit ys) none ∙ (ap (λ n. take n ys) is ∙ ap (take most) e))

pub returns-in-Ok-read_to_end : goal.returns-in-Ok-read_to_end
returns-in-Ok-read_to_end g c = start_of (g.F.Read.remaining c.take.result.inner) (g.F.Read.remaining c.args.file) _ c.in-Ok.bytes.items c.take.result.limit _
    (ap g.F.Read.remaining c.take.ensures.inner) c.in-Ok.ensures.items c.take.ensures.limit c.in-Ok-read_to_end.ensures.bytes
