-- A frame's layout, and what opening answers for any octets.
use Rattle.std.specs.Prelude.{◌≡◌, ℕ, ◌-◌, ◌%◌, ◌<◌, ◌≤◌, Bool, cond, ◌≢◌, ◌⊎◌, List, [], ◌∷◌, ◌++◌, length, take, drop, Ok, Err, Result, ◌==◌, slice_index}
use Rattle.std.specs.List.{AllByRecursion}
use Rattle.frame.specs.Addresses.{IsAddress, address_octets}
use Rattle.frame.specs.Controls.{Numbered, control_octet, Suits}
use Rattle.faults.specs.Faults.{frame_number, frame_place}
use Rattle.frame.specs.declared.address.Address.{Address}
use Rattle.frame.specs.declared.control.Control.{Control}
use Rattle.frame.specs.declared.control.ControlError.{ControlError}
use Rattle.faults.specs.declared.FrameFault.{FrameFault}
use Rattle.faults.specs.declared.FrameFault.TheVariants.{Length, DestinationMark, SourceMark, UnlistedType, UnlistedControl, UnsuitedInformation, Exchange}
use Rattle.frame.specs.declared.opening.Frame.{Frame}
use Rattle.frame.specs.declared.opening.Heading.{Heading}

-- what a frame says: its addresses, status bits, control and information octets
pub record Content : Type 0 where
  pub destination : Address
  pub from_ground : Bool
  pub source : Address
  pub response : Bool
  pub control : Control
  pub information : List ℕ

-- what a heading and information octets say
abbrev pub content_of : Heading → List ℕ → Content
content_of h information =
    record {
      destination = h.destination;
      from_ground = h.from_ground;
      source = h.source;
      response = h.response;
      control = h.control;
      information = information;
    }

abbrev pub content : Frame → Content
content f = content_of f.heading f.information.now

-- the nine octets before the information
abbrev pub header : Content → List ℕ
header c = address_octets c.from_ground c.destination ++ (address_octets c.response c.source ++ (control_octet c.control ∷ []))

-- the layout, from frame to octets
abbrev pub layout : Content → List ℕ
layout c = header c ++ c.information

-- a frame that has a layout: its numbers have their widths, and its information suits its control and is at most 2,052 octets
pub record Layable (c : Content) : Type 0 where
  pub destination : IsAddress c.destination
  pub source : IsAddress c.source
  pub numbered : Numbered c.control
  pub octets : AllByRecursion (λ o. o < 256) c.information
  pub suits : Suits c.control (length c.information)
  pub fits : length c.information ≤ 2052

-- bit 1 of an address's octets: 1 in the fourth alone
abbrev pub mark : ℕ → ℕ
mark place = cond (place == 3) 1 0

-- what is wrong with octets, for each fault of opening
abbrev pub Wrong : List ℕ → FrameFault → Type 0
Wrong os (Length n) = ((length os < 9) ⊎ (2061 < length os)) × (n ≡ length os)
Wrong os (DestinationMark place) = (place < 4) × (slice_index os place % 2 ≢ mark place)
Wrong os (SourceMark place) = (4 ≤ place) × (place < 8) × (slice_index os place % 2 ≢ mark (place - 4))
Wrong os (UnlistedType place) =
    ((place ≡ 0) ⊎ (place ≡ 4)) × ((status : Bool) (a : Address) → IsAddress a → address_octets status a ≢ take 4 (drop place os))
Wrong os UnlistedControl = (c : Control) → Numbered c → control_octet c ≢ slice_index os 8
Wrong os UnsuitedInformation = (c : Control) × (Numbered c × (control_octet c ≡ slice_index os 8) × (Suits c (length os - 9) → ⊥))
Wrong os (Exchange fault) = ⊥

-- the first fault: no other has a lower number, or the same number and a lower place
pub record First (os : List ℕ) (f : FrameFault) : Type 0 where
  pub wrong : Wrong os f
  pub first : (g : FrameFault) → Wrong os g → (frame_number f < frame_number g) ⊎ ((frame_number f ≡ frame_number g) × (frame_place f ≤ frame_place g))

-- opening answers the frame whose layout the octets are, or the first fault
abbrev pub Opened : List ℕ → Result Frame FrameFault → Type 0
Opened os (Ok f) = Layable (content f) × (layout (content f) ≡ os)
Opened os (Err fault) = First os fault

-- making a heading's octets: refused exactly if a number of its control is above 7
abbrev pub HeaderMade : Heading → Result (List ℕ) ControlError → Type 0
HeaderMade h (Ok os) = Numbered h.control × (os ≡ header (content_of h []))
HeaderMade h (Err e) = Numbered h.control → ⊥
