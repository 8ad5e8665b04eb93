-- Rows stand below one another, and so do the marks of a lane.
use Rattle.std.proofs.Common.{◌≡◌, ℕ, zero, suc, ◌+◌, ◌<◌, ◌≤◌, max, true, cond, List, [], ◌∷◌, ◌++◌, length}
use Rattle.std.proofs.Common.{count_by, Some, is_some, slice_get, refl, ap, subst, arith, All, add-one, ◌∙◌}
use Rattle.std.specs.List.{AllByRecursion, slice_index}
use Rattle.std.proofs.lemmas.Bool.{cond-true, eq-eqb}
use Rattle.std.proofs.lemmas.List.Elements.{All-from_recursion}
use Rattle.std.proofs.lemmas.List.Sums.{sum_by-append}
use Rattle.diagram.specs.Lines.{first_line, height_of, is_on, lane_of, lines_from, lines_of, reach, tops_from, tops_of}
use Rattle.diagram.specs.declared.rows.Mark.{Mark}
use Rattle.diagram.specs.declared.rows.Row.{Row}

-- ---- rows

first_top : (top : ℕ) (rows : List Row) → slice_index (tops_from top rows) 0 ≡ top
first_top top [] = refl
first_top top (row ∷ rows) = refl

next_top : (top : ℕ) (rows : List Row) (i : ℕ) (row : Row) → slice_get rows i ≡ Some row
    → slice_index (tops_from top rows) (suc i) ≡ slice_index (tops_from top rows) i + height_of row
next_top top [] i row h = cc
next_top top (first ∷ rows) zero row h =
    let same : first ≡ row = cc in
    first_top (top + height_of first) rows ∙ ap (λ (r : Row). top + height_of r) same
next_top top (first ∷ rows) (suc i) row h = next_top (top + height_of first) rows i row h

pub rows_apart : (rows : List Row) (i : ℕ) (row : Row) → slice_get rows i ≡ Some row
    → slice_index (tops_of rows) (i + 1) ≡ slice_index (tops_of rows) i + height_of row
rows_apart rows i row h = rw add-one (next_top 0 rows i row h)

-- ---- how high a row is

reach_least : (least : ℕ) (lines : List ℕ) → least ≤ reach least lines
reach_least least [] = omega arith
reach_least least (line ∷ lines) =
    let more : max least (line + 1) ≤ reach (max least (line + 1)) lines = reach_least (max least (line + 1)) lines in omega arith

reached : (least bound : ℕ) (lines : List ℕ) → reach least lines ≤ bound → AllByRecursion (λ (line : ℕ). line < bound) lines
reached least bound [] h = tt
reached least bound (line ∷ lines) h = (
  let more : max least (line + 1) ≤ reach (max least (line + 1)) lines = reach_least (max least (line + 1)) lines in omega arith,
  reached (max least (line + 1)) bound lines h,
)

pub some_height : (row : Row) → 0 < height_of row
some_height row =
    let least : max (length row.words.items) 1 ≤ height_of row = reach_least (max (length row.words.items) 1) (lines_of row) in omega arith

pub words_fit : (row : Row) → length row.words.items ≤ height_of row
words_fit row =
    let least : max (length row.words.items) 1 ≤ height_of row = reach_least (max (length row.words.items) 1) (lines_of row) in omega arith

pub lines_fit : (row : Row) → All (λ (line : ℕ). line < height_of row) (lines_of row)
lines_fit row =
    All-from_recursion (λ (line : ℕ). line < height_of row) (lines_of row)
    (reached (max (length row.words.items) 1) (height_of row) (lines_of row) (omega arith))

-- ---- the marks of a row

above_first : (first : ℕ) (before marks : List Mark) → 0 < first → AllByRecursion (λ (line : ℕ). 0 < line) (lines_from first before marks)
above_first first before [] h = tt
above_first first before (mark ∷ marks) h = (omega arith, above_first first (before ++ mark ∷ []) marks h)

pub below_the_end : (row : Row) → is_some row.took ≡ true → All (λ (line : ℕ). 0 < line) (lines_of row)
below_the_end row h =
    let one : first_line row ≡ 1 = cond-true (is_some row.took) 1 0 h in
    All-from_recursion (λ (line : ℕ). 0 < line) (lines_of row) (above_first (first_line row) [] row.marks.items (omega arith))

-- a mark more before
count_more : (lane : ℕ) (before : List Mark) (mark : Mark)
    → count_by (is_on lane) (before ++ mark ∷ []) ≡ count_by (is_on lane) before + cond (is_on lane mark) 1 0
count_more lane before mark =
    let one : 0 + cond (is_on lane mark) 1 0 ≡ cond (is_on lane mark) 1 0 = omega arith in
    sum_by-append (λ (m : Mark). cond (is_on lane m) 1 0) before (mark ∷ []) ∙ ap (λ (n : ℕ). count_by (is_on lane) before + n) one

least_line : (first : ℕ) (before marks : List Mark) (j : ℕ) (mark : Mark) → slice_get marks j ≡ Some mark
    → first + count_by (is_on (lane_of mark)) before ≤ slice_index (lines_from first before marks) j
least_line first before [] j mark h = cc
least_line first before (other ∷ marks) zero mark h =
    let same : other ≡ mark = cc in
    subst (λ (m : Mark). first + count_by (is_on (lane_of m)) before ≤ first + count_by (is_on (lane_of other)) before) same (omega arith)
least_line first before (other ∷ marks) (suc j) mark h =
    let rest = least_line first (before ++ other ∷ []) marks j mark h in
    let more = count_more (lane_of mark) before other in
    omega arith

line_by_line : (first : ℕ) (before marks : List Mark) (i j : ℕ) (one other : Mark) → i < j → slice_get marks i ≡ Some one
    → slice_get marks j ≡ Some other → lane_of one ≡ lane_of other
    → slice_index (lines_from first before marks) i < slice_index (lines_from first before marks) j
line_by_line first before [] i j one other l h k e = cc
line_by_line first before (mark ∷ marks) zero zero one other l h k e = absurd (omega arith)
line_by_line first before (mark ∷ marks) zero (suc j) one other l h k e =
    let same : mark ≡ one = cc in
    let lane : lane_of mark ≡ lane_of other = ap lane_of same ∙ e in
    let rest : first + count_by (is_on (lane_of other)) (before ++ mark ∷ [])
    ≤ slice_index (lines_from first (before ++ mark ∷ []) marks) j = least_line first (before ++ mark ∷ []) marks j other k in
    let more : count_by (is_on (lane_of other)) (before ++ mark ∷ []) ≡ count_by (is_on (lane_of other)) before + 1 =
    count_more (lane_of other) before mark ∙ ap (λ (n : ℕ). count_by (is_on (lane_of other)) before + n)
    (cond-true (is_on (lane_of other) mark) 1 0 (eq-eqb (lane_of mark) (lane_of other) lane)) in
    let here : count_by (is_on (lane_of mark)) before ≡ count_by (is_on (lane_of other)) before =
    ap (λ (n : ℕ). count_by (is_on n) before) lane in
    omega arith
line_by_line first before (mark ∷ marks) (suc i) zero one other l h k e = absurd (omega arith)
line_by_line first before (mark ∷ marks) (suc i) (suc j) one other l h k e =
    line_by_line first (before ++ mark ∷ []) marks i j one other (omega arith) h k e

pub marks_apart : (row : Row) (i j : ℕ) (one other : Mark) → i < j → slice_get row.marks.items i ≡ Some one
    → slice_get row.marks.items j ≡ Some other → lane_of one ≡ lane_of other
    → slice_index (lines_of row) i < slice_index (lines_of row) j
marks_apart row i j one other l h k e = line_by_line (first_line row) [] row.marks.items i j one other l h k e
