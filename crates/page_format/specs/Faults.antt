-- The numbers of rejections and layers. Every promise that names a fault goes through these.
use Rattle.std.specs.Prelude.{◌≡◌, ℕ, List, ◌++◌, Ok, Err, Result, codes, decimal, ◌≢◌}
use Rattle.page_format.specs.declared.fault.Rejection.{Rejection}
use Rattle.page_format.specs.declared.fault.Rejection.TheVariants.{MalformedArray, AboveLimit, IndexOutside, UnsuitedValue, PageFull, DictionaryFull, MemoryFull, KeysHeld, ShortBuffer, UnfitEncoding, MalformedPage, KeyOutside}
use Rattle.page_format.specs.declared.fault.Layer.{Layer}
use Rattle.page_format.specs.declared.fault.Layer.TheVariants.{Array, Store, Form, Writer, Reader}
use Rattle.page_format.specs.declared.fault.Fault.{Fault}
use Rattle.page_format.specs.declared.encoding.UnknownEncoding.{UnknownEncoding}
use Rattle.page_format.specs.declared.encoding.Encoding.{Encoding}
use Rattle.page_format.specs.declared.encoding.Encoding.TheVariants.{Plain, DeltaLengthByteArray, DeltaByteArray, RleDictionary}

abbrev pub rejection_number : Rejection → ℕ
rejection_number MalformedArray = 1
rejection_number AboveLimit = 2
rejection_number IndexOutside = 3
rejection_number UnsuitedValue = 4
rejection_number PageFull = 5
rejection_number DictionaryFull = 6
rejection_number MemoryFull = 7
rejection_number KeysHeld = 8
rejection_number ShortBuffer = 9
rejection_number UnfitEncoding = 10
rejection_number MalformedPage = 11
rejection_number KeyOutside = 12

abbrev pub layer_number : Layer → ℕ
layer_number Array = 1
layer_number Store = 2
layer_number Form = 3
layer_number Writer = 4
layer_number Reader = 5

-- the fault has this number, this layer and this place
abbrev pub Numbered : ℕ → ℕ → ℕ → Fault → Type 0
Numbered n l p f = (rejection_number f.number ≡ n) × (layer_number f.layer ≡ l) × (f.place ≡ p)

-- a fault as text: its number, its layer and its place
abbrev pub fault_text : Fault → List ℕ
fault_text f = codes "fault " ++ decimal (rejection_number f.number) ++ codes " " ++ decimal (layer_number f.layer) ++ codes " " ++ decimal f.place

-- the call was rejected with this number, this layer and this place
abbrev pub Rejected : {X : Type 0} → ℕ → ℕ → ℕ → Result X Fault → Type 0
Rejected n l p (Ok x) = ⊥
Rejected n l p (Err f) = Numbered n l p f

-- the encodings' numbers in the format's Thrift definition
abbrev pub encoding_number : Encoding → ℕ
encoding_number Plain = 0
encoding_number DeltaLengthByteArray = 6
encoding_number DeltaByteArray = 7
encoding_number RleDictionary = 8

-- the answer to a number: the encoding that has it, or that none has it
abbrev pub HasEncoding : ℕ → Result Encoding UnknownEncoding → Type 0
HasEncoding n (Ok e) = encoding_number e ≡ n
HasEncoding n (Err u) = (u.0 ≡ n) × ((e : Encoding) → encoding_number e ≢ n)

-- what a call told its caller: a value, or the number, the layer and the place of its fault
pub data Told (X : Type 0) : Type 0 where
  answered : X → Told X
  rejected : ℕ → ℕ → ℕ → Told X

-- an answer by its value and its numbers; `says` is what is promised of the value
abbrev pub told_as : {X Y : Type 0} → (X → Y) → Result X Fault → Told Y
told_as says (Ok x) = answered (says x)
told_as says (Err f) = rejected (rejection_number f.number) (layer_number f.layer) f.place

abbrev pub told : {X : Type 0} → Result X Fault → Told X
told r = told_as (λ x. x) r
