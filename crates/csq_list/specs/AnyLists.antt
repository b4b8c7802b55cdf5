-- What a list of either kind means.
use Rattle.std.specs.Prelude.{ℕ, nat_le, if◌then◌else◌, Bool, true, false}
use Rattle.csq_list.specs.Listing.{Listing, IsSound}
use Rattle.csq_list.specs.declared.any_list.{AnyList.{AnyList, TheVariants.{Vector, Chains}}, ListKind.{ListKind}}
use Rattle.csq_list.specs.declared.any_list.ListKind.TheVariants as kinds
use Rattle.csq_list.specs.declared.any_list.TheConstants.{VECTOR_IRPS}
use Rattle.csq_list.specs.declared.vec_list.VecList.{VecList}
use Rattle.csq_list.specs.declared.chain_list.ChainList.{ChainList}
use Rattle.std.specs.Global.{Global}

-- how a list is kept
abbrev pub kind_of : AnyList → ListKind
kind_of (Vector list) = kinds.Vector
kind_of (Chains list) = kinds.Chains

-- the kind for so many IRPs, if nothing is known of how they will be removed
abbrev pub kind_for : ℕ → ListKind
kind_for irps = if nat_le irps VECTOR_IRPS then kinds.Vector else kinds.Chains

-- whether a list of this kind is in chains
abbrev pub is_chained : ListKind → Bool
is_chained kinds.Vector = false
is_chained kinds.Chains = true

-- it means what the list that was chosen means
abbrev pub any_listing : (VecList Global → Listing) → (ChainList Global → Listing) → AnyList → Listing
any_listing vector chains (Vector list) = vector list
any_listing vector chains (Chains list) = chains list

-- and is as sound
pub any_sound : (vector : VecList Global → Listing) (chains : ChainList Global → Listing) → ((list : VecList Global) → IsSound (vector list)) → ((list : ChainList Global) → IsSound (chains list)) → (list : AnyList) → IsSound (any_listing vector chains list)
any_sound vector chains v c (Vector list) = v list
any_sound vector chains v c (Chains list) = c list
