-- The facts that a check knows about a list whose items aren't kept.
use Rattle.std.proofs.Common.{◌≡◌, ℕ, ◌+◌, ◌<◌, ◌&&◌, leb, List, length, Ok, ap, ◌∙◌}
use Rattle.erl_term.specs.Data.{Data, Items, count}
use Rattle.erl_term.specs.Canonical.{are_byte_items, most_levels}
use Rattle.script_terms.specs.declared.checking.Shape.{Shape}
use Rattle.script_terms.specs.declared.checking.Row.{Row}
use Rattle.script_terms.specs.declared.lists.Step.TheVariants as step
use Rattle.script_terms.specs.Reading.{Read, cells_at}
use Rattle.script_terms.specs.Steps.{step_at}
use Rattle.script_terms.specs.Checking.{HasShape}
use Rattle.script_terms.proofs.Cells.{and_one, state, cells_item, cells_list}
use Rattle.script_terms.proofs.Shapes.{fit_and_one, bytes_and_one, count_and_one}

pub record ItemsRead (one : List ℕ → Read Data) (brackets : ℕ) (bytes : List ℕ) (i opened : ℕ) (rest : List ℕ) (row : Row) : Type 0 where
  pub items : Items
  pub reading : state one items opened (length bytes) i rest ≡ cells_at one (length bytes) bytes
  pub fit : row.fit ≡ leb (most_levels items) brackets
  pub are_bytes : row.are_bytes ≡ are_byte_items items
  pub counted : count items ≡ i

-- the row with one more
pub record IsNext (old : Row) (shape : Shape) (new : Row) : Type 0 where
  pub fit : new.fit ≡ (old.fit && shape.fits)
  pub are_bytes : new.are_bytes ≡ (old.are_bytes && shape.is_byte)

-- the items with one more
pub record OneMore (brackets : ℕ) (ts : Items) (d : Data) (i : ℕ) (row : Row) : Type 0 where
  pub fit : row.fit ≡ leb (most_levels (and_one ts d)) brackets
  pub are_bytes : row.are_bytes ≡ are_byte_items (and_one ts d)
  pub counted : count (and_one ts d) ≡ i + 1

pub one_more : (one : List ℕ → Read Data) (brackets : ℕ) (bytes : List ℕ) (i opened : ℕ) (rest : List ℕ) (row : Row)
    (h : ItemsRead one brackets bytes i opened rest row) (d : Data) (shape : Shape) (new : Row) → HasShape brackets d shape
    → IsNext row shape new
    → OneMore brackets h.items d i new
one_more one brackets bytes i opened rest row h d shape new s n = record {
  fit = n.fit ∙ fit_and_one h.items d brackets row.fit shape.fits h.fit s.fits;
  are_bytes = n.are_bytes ∙ bytes_and_one h.items d row.are_bytes shape.is_byte h.are_bytes s.byte;
  counted = count_and_one h.items d ∙ ap (λ (k : ℕ). k + 1) h.counted;
}

pub more_items : (one : List ℕ → Read Data) (brackets : ℕ) (bytes : List ℕ) (i opened : ℕ) (rest : List ℕ) (row : Row)
    (d : Data) (after behind : List ℕ) (shape : Shape) (new : Row) → i < length bytes → one rest ≡ Ok (d, after)
    → step_at after ≡ Ok (step.Item, behind) → HasShape brackets d shape → IsNext row shape new
    → ItemsRead one brackets bytes i opened rest row → ItemsRead one brackets bytes (i + 1) opened behind new
more_items one brackets bytes i opened rest row d after behind shape new lt e k s n h =
    let more = one_more one brackets bytes i opened rest row h d shape new s n in
    record {
      items = and_one h.items d;
      reading = cells_item one h.items opened (length bytes) i rest d after behind (cells_at one (length bytes) bytes) lt e k h.reading;
      fit = more.fit;
      are_bytes = more.are_bytes;
      counted = more.counted;
    }

pub more_list : (one : List ℕ → Read Data) (brackets : ℕ) (bytes : List ℕ) (i opened : ℕ) (rest : List ℕ) (row : Row)
    (d : Data) (after behind : List ℕ) (shape : Shape) (new : Row) → i < length bytes → one rest ≡ Ok (d, after)
    → step_at after ≡ Ok (step.List, behind) → HasShape brackets d shape → IsNext row shape new
    → ItemsRead one brackets bytes i opened rest row → ItemsRead one brackets bytes (i + 1) (opened + 1) behind new
more_list one brackets bytes i opened rest row d after behind shape new lt e k s n h =
    let more = one_more one brackets bytes i opened rest row h d shape new s n in
    record {
      items = and_one h.items d;
      reading = cells_list one h.items opened (length bytes) i rest d after behind (cells_at one (length bytes) bytes) lt e k h.reading;
      fit = more.fit;
      are_bytes = more.are_bytes;
      counted = more.counted;
    }
