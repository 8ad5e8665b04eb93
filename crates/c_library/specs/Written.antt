-- Bytes that are written into a buffer at a place.
use Rattle.std.specs.Prelude.{◌≡◌, ℕ, ◌+◌, List, ◌++◌, length, take, drop}

-- the text is written from one place to the other, and no other byte changes
pub record IsWritten (start : ℕ) (text old : List ℕ) (stop : ℕ) (new : List ℕ) : Type 0 where
  pub is_stop : stop ≡ start + length text
  pub size : length new ≡ length old
  pub front : take stop new ≡ take start old ++ text
  pub back : drop stop new ≡ drop stop old
