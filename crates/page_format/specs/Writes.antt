-- What a writer into a lent buffer answers, and every byte of the buffer after.
use Rattle.std.specs.Prelude.{◌≡◌, ℕ, ◌+◌, ◌≤◌, List, ◌++◌, length, take, drop, Some, None, Option, slice_set, ◌<◌}
use Rattle.page_format.specs.declared.bit_writer.BitWriter.{BitWriter}

-- bs stand at `at`, and end is the place behind them; before and behind is what was there
pub record Wrote (bs : List ℕ) (at : ℕ) (out : List ℕ) (end : ℕ) (out' : List ℕ) : Type 0 where
  pub end_is : end ≡ at + length bs
  pub fits : end ≤ length out
  pub front : take end out' ≡ take at out ++ bs
  pub back : drop end out' ≡ drop end out

-- n bytes more have room
abbrev pub HasRoom : ℕ → BitWriter → Type 0
HasRoom n w = w.at + n ≤ length w.bytes.now

-- bs are written at the writer's place, which is then behind them
pub record Appends (bs : List ℕ) (w w' : BitWriter) : Type 0 where
  pub same_buffer : w'.bytes.ghost_name ≡ w.bytes.ghost_name
  pub wrote : Wrote bs w.at w.bytes.now w'.at w'.bytes.now

-- bs are written where P holds and the buffer has room; else nothing is
abbrev pub AppendsIf : Type 0 → List ℕ → BitWriter → Option (Unit {0}) → BitWriter → Type 0
AppendsIf P bs w None w' = (P → HasRoom (length bs) w → ⊥) × (w' ≡ w)
AppendsIf P bs w (Some _) w' = P × Appends bs w w'

-- the byte at a place before the writer's is set; from the writer's place on none is
pub record Sets (place byte : ℕ) (w w' : BitWriter) : Type 0 where
  pub same_buffer : w'.bytes.ghost_name ≡ w.bytes.ghost_name
  pub same_place : w'.at ≡ w.at
  pub bytes_are : w'.bytes.now ≡ slice_set w.bytes.now place byte

abbrev pub Rewrites : ℕ → ℕ → BitWriter → Option (Unit {0}) → BitWriter → Type 0
Rewrites place byte w None w' = (w.at ≤ place) × (w' ≡ w)
Rewrites place byte w (Some _) w' = (place < w.at) × Sets place byte w w'

-- the writer stands at a place, and has written nothing
pub record StandsAt (at : ℕ) (w w' : BitWriter) : Type 0 where
  pub same_buffer : w'.bytes.ghost_name ≡ w.bytes.ghost_name
  pub same_bytes : w'.bytes.now ≡ w.bytes.now
  pub place_is : w'.at ≡ at

abbrev pub Moves : ℕ → BitWriter → Option (Unit {0}) → BitWriter → Type 0
Moves at w None w' = (length w.bytes.now < at) × (w' ≡ w)
Moves at w (Some _) w' = (at ≤ length w.bytes.now) × StandsAt at w w'
