-- How a canvas changes with the elements that are drawn on it.
use Rattle.std.specs.Prelude.{◌≡◌, List, [], ◌∷◌}
use Rattle.csq_draw.specs.declared.element.Element.{Element}

-- what a canvas shows that showed this, after these elements, one after the other
abbrev pub with_all : {I : Type 0} → (I → Element → I) → I → List Element → I
with_all added image [] = image
with_all added image (e ∷ es) = with_all added (added image e) es

-- a canvas gained these elements
abbrev pub Drew : {I : Type 0} → (I → Element → I) → I → I → List Element → Type 0
Drew added old new es = new ≡ with_all added old es
