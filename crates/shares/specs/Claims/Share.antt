-- What is claimed of the definitions of `Share`.
use Rattle.std.specs.Prelude.{ℕ, ◌*◌, ◌<◌, ◌≡◌, ◌&&◌, T}
use Rattle.shares.specs.declared.share.Share.{Share}
use Rattle.shares.specs.Share.{share_of, reads}

abbrev pub Divides : ℕ → ℕ → Type 0
Divides d n = (k : ℕ) × (n ≡ d * k)

-- the same share, over a number above 0, and no number but 1 divides both
pub record Lowest (used available : ℕ) (s : Share) : Type 0 where
  pub same : s.part * available ≡ used * s.whole
  pub positive : 0 < s.whole
  pub lowest : (d : ℕ) → Divides d s.part → Divides d s.whole → d ≡ 1

abbrev pub LowestTerms : Type 0
LowestTerms = (used available : ℕ) → 0 < available → Lowest used available (share_of used available)

abbrev pub NoneAnswered : Type 0
NoneAnswered = (used : ℕ) → share_of used 0 ≡ record { part = 0; whole = 1 }

abbrev pub ShareReadings : Type 0
ShareReadings =
    T (reads 0 0 0 1
    && (reads 0 1019 0 1
    && (reads 1 1019 1 1019
    && (reads 1019 1019 1 1
    && (reads 1019 2038 1 2
    && (reads 6 1019 6 1019
    && (reads 764 2038 382 1019
    && reads 0xffff_ffff_ffff_fffe 0xffff_ffff_ffff_ffff 0xffff_ffff_ffff_fffe 0xffff_ffff_ffff_ffff)))))))

pub record ShareClaims : Type 0 where
  pub lowest_terms : LowestTerms
  pub none_answered : NoneAnswered
  pub readings : ShareReadings
