-- The laws of the frame format.
use Rattle.std.specs.Prelude.{◌≡◌, ℕ, List, Ok, Result}
use Rattle.faults.specs.declared.FrameFault.{FrameFault}
use Rattle.frame.specs.declared.opening.Frame.{Frame}
use Rattle.frame.specs.Opening.{Content, content, layout, Layable, First, Opened}

-- octets are the layout of one frame at most
abbrev pub LayoutIsOne : Type 0
LayoutIsOne = (c d : Content) → Layable c → Layable d → layout c ≡ layout d → c ≡ d

-- octets have one first fault at most
abbrev pub FaultIsOne : Type 0
FaultIsOne = (os : List ℕ) (f g : FrameFault) → First os f → First os g → f ≡ g

-- a frame's layout has no fault
abbrev pub LayoutHasNoFault : Type 0
LayoutHasNoFault = (c : Content) (f : FrameFault) → Layable c → First (layout c) f → ⊥

-- so opening what was laid out gives the frame back
abbrev pub LaidOutIsOpened : Type 0
LaidOutIsOpened = (c : Content) (r : Result Frame FrameFault) → Layable c → Opened (layout c) r → (f : Frame) × ((r ≡ Ok f) × (content f ≡ c))
