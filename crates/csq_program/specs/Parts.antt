-- Which part of a schedule is drawn, and as what.
use Rattle.std.specs.Prelude.{ℕ, ◌<◌, ◌≤◌, Bool, true, false, Option, None, Some, IfSome}
use Rattle.csq_draw.specs.declared.view.Format.{Format, TheVariants.{Svg, Text}}
use Rattle.csq_draw.specs.declared.view.Window.{Window}

-- it is drawn for a terminal
abbrev pub is_text : Format → Bool
is_text Svg = false
is_text Text = true

-- the steps from this line on, and of this IRP: all, if neither is named
abbrev pub window_of : Option ℕ → Option ℕ → Option Window
window_of None None = None
window_of (Some from) None = Some (record { from = from; irp = None })
window_of None (Some irp) = Some (record { from = 1; irp = Some (record { 0 = irp }) })
window_of (Some from) (Some irp) = Some (record { from = from; irp = Some (record { 0 = irp }) })

-- a line is not above another, if both are named
abbrev pub AreInOrder : Option ℕ → Option ℕ → Type 0
AreInOrder from to = IfSome from (λ first. IfSome to (λ last. first ≤ last))

-- a part of a schedule over this number of IRPs, up to this line if one is named
pub record IsPart (irps : ℕ) (window : Option Window) (to : Option ℕ) : Type 0 where
  pub begins : IfSome window (λ w. (1 ≤ w.from) × (w.from ≤ 1048577))
  pub ends : IfSome to (λ line. (1 ≤ line) × (line ≤ 1048577))
  pub in_order : IfSome window (λ w. IfSome to (λ line. w.from ≤ line))
  pub of_irp : IfSome window (λ w. IfSome w.irp (λ irp. irp.0 < irps))
