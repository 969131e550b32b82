-- The remaining work on the open files. A line counts more than all lines of a file one level deeper.
use Rattle.std.proofs.Common.{◌≡◌, ℕ, zero, suc, ◌+◌, ◌-◌, ◌*◌, ◌^◌, ◌<◌, ◌≤◌, List, [], ◌∷◌, length, ap, Option, None, Some, arith}
use Rattle.std.proofs.Math.Nat.{mul-lt-mul_of_pos_right, mul-le-mul_right}
use Rattle.pptext.specs.Lines.{LogicalLine}
use Rattle.ppshelf.specs.Files.{Files}
use Rattle.ppunit.specs.code.Opening.{OpenFile, Entered}
use Rattle.ppunit.specs.States.{State, Context}
use Rattle.ppunit.specs.code.Walk.{StepsTo, SuspendedFile, next_file, next_suspended}

-- more than the number of lines of a file, with its end counted as one
limit : ℕ
limit = 2 ^ 64 + 1

-- the weight of a line, if files can be n levels deeper
weight : ℕ → ℕ
weight zero = 1
weight (suc n) = limit * weight n

weight_pos : (n : ℕ) → 0 < weight n
unfolding weight limit
weight_pos zero = omega arith
weight_pos (suc n) = omega (arith, weight_pos n)

weight_more : (n : ℕ) → n < 200 → weight (200 - n) ≡ limit * weight (200 - suc n)
unfolding weight
weight_more n deep = let one : 200 - n ≡ suc (200 - suc n) = omega arith in ap weight one

-- the number of remaining lines of a file, with its end counted as one
lines_left : OpenFile → ℕ
lines_left f = suc (length f.lines - f.index)

lines_fewer : (f : OpenFile) (next : ℕ) → f.index < length f.lines → f.index < next → lines_left (record f { index = next }) < lines_left f
unfolding lines_left
lines_fewer f next within further = omega arith

lines_few : (f : OpenFile) → length f.lines < 2 ^ 64 → lines_left f < limit
unfolding lines_left limit
lines_few f few = omega arith

lines_some : (f : OpenFile) → 0 < lines_left f
unfolding lines_left
lines_some f = omega arith

pub waiting_work : List SuspendedFile → ℕ
waiting_work [] = 0
waiting_work (w ∷ ws) = lines_left w.file * weight (200 - length ws) + waiting_work ws

-- the remaining work on the current file and the suspended files, of which the last one is first
pub work : OpenFile → List SuspendedFile → ℕ
work f ws = lines_left f * weight (200 - length ws) + waiting_work ws

fewer : (x y r rest : ℕ) → x < y → 0 < r → x * r + rest < y * r + rest
fewer x y r rest less some = omega (arith, mul-lt-mul_of_pos_right less some)

work_on : (f : OpenFile) (next : ℕ) (ws : List SuspendedFile) → f.index < length f.lines → f.index < next → work (record f { index = next }) ws < work f ws
unfolding work
work_on f next ws within further =
    fewer (lines_left (record f { index = next })) (lines_left f) (weight (200 - length ws)) (waiting_work ws) (lines_fewer f next within further) (weight_pos (200 - length ws))

deeper : (x y z r s rest : ℕ) → s ≡ limit * r → 0 < r → x < limit → y < z → x * r + (y * s + rest) < z * s + rest
deeper x y z r s rest is some few less =
    let inner : x * r < limit * r = mul-lt-mul_of_pos_right few some in
    let outer : suc y * s ≤ z * s = mul-le-mul_right s less in
    omega arith

work_entering : (f : OpenFile) (next : ℕ) (e : Entered) (ws : List SuspendedFile)
    → f.index < length f.lines
    → f.index < next
    → length e.file.lines < 2 ^ 64
    → length ws < 200
    → work e.file (record { file = record f { index = next }; file_context = e.outer; resumption = e.resumption } ∷ ws) < work f ws
unfolding work waiting_work
work_entering f next e ws within further few deep =
    deeper (lines_left e.file) (lines_left (record f { index = next })) (lines_left f) (weight (200 - suc (length ws))) (weight (200 - length ws))
    (waiting_work ws) (weight_more (length ws) deep) (weight_pos (200 - suc (length ws))) (lines_few e.file few) (lines_fewer f next within further)

pub work_next : (base : ℕ) (context : Files → Context) (files : Files) (row : ℕ) (lines : List LogicalLine) (index next : ℕ) (s t : State) (f : OpenFile)
    (entered : Option Entered) (ws : List SuspendedFile)
    → f.index < length f.lines
    → f.index < next
    → StepsTo context files (length ws + base) row lines index s t next entered
    → work (next_file (record f { index = next }) entered) (next_suspended (record f { index = next }) entered ws) < work f ws
work_next base context files row lines index next s t f None ws within further step = work_on f next ws within further
work_next base context files row lines index next s t f (Some e) ws within further step =
    work_entering f next e ws within further step.1.few (omega (arith, step.1.fits))

pub work_leaving : (f : OpenFile) (w : SuspendedFile) (ws : List SuspendedFile) → work w.file ws < work f (w ∷ ws)
unfolding work waiting_work
work_leaving f w ws =
    let some : 0 * weight (200 - suc (length ws)) < lines_left f * weight (200 - suc (length ws)) = mul-lt-mul_of_pos_right (lines_some f) (weight_pos (200 - suc (length ws))) in
    omega arith
