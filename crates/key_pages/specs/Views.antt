-- A run of the code as a run of the format.
use Rattle.std.specs.Prelude.{ℕ, ◌*◌, ◌^◌, Bool, true, ◌&&◌, length, Some, None, Option, ◌==◌, nat_lt}
use Rattle.page_format.specs.Bits.{bytes_for}
use Rattle.key_pages.specs.Meaning.{ReadRun, repeats, packs}
use Rattle.key_pages.specs.declared.run.Run.{Run}
use Rattle.key_pages.specs.declared.run.Run.TheVariants.{Repeat, Packed}

abbrev pub view : Run → ReadRun
view (Repeat count value place) = repeats place count value.now
view (Packed groups bytes place) = packs place groups bytes.now

-- a run with values, and as many bytes as they take at w bits
abbrev pub whole : ℕ → ReadRun → Bool
whole w (repeats place count value) = length value == bytes_for w && nat_lt 0 count
whole w (packs place groups bytes) = length bytes == groups * w && (nat_lt 0 groups && nat_lt groups (2 ^ 32))

-- and so is the run in use, if there is one
abbrev pub holds_whole : ℕ → Option Run → Bool
holds_whole w None = true
holds_whole w (Some run) = whole w (view run)
