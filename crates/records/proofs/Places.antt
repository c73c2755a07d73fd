-- Places and their three octets: each tells the other.
use Rattle.std.proofs.Common.{◌≡◌, ℕ, ◌+◌, ◌*◌, ◌/◌, ◌%◌, ◌<◌, ℤ, pos, negsuc, ap, arith}
use Rattle.records.specs.Values.{twelve, Within}
use Rattle.records.specs.Laws.{LocationIsOne}
use Rattle.records.specs.declared.values.Location.{Location}

twelve_one : (y z : ℤ) → Within 1800 y → Within 1800 z → twelve y ≡ twelve z → y ≡ z
twelve_one (pos m) (pos n) h k e = ap pos e
twelve_one (pos m) (negsuc n) h k e = absurd (omega arith)
twelve_one (negsuc m) (pos n) h k e = absurd (omega arith)
twelve_one (negsuc m) (negsuc n) h k e = let z : m ≡ n = omega arith in ap negsuc z

wider : (z : ℤ) → Within 900 z → Within 1800 z
wider (pos n) h = omega arith
wider (negsuc n) h = omega arith

twelve_below : (z : ℤ) → Within 1800 z → twelve z < 4096
twelve_below (pos n) h = omega arith
twelve_below (negsuc n) h = omega arith

-- the numbers of twelve bits that three octets make up
digits_one : (a b c d : ℕ) → a < 4096 → b < 4096 → c < 4096 → d < 4096
    → a / 16 ≡ c / 16 → a % 16 * 16 + b / 256 ≡ c % 16 * 16 + d / 256 → b % 256 ≡ d % 256
    → (a ≡ c) × (b ≡ d)
digits_one a b c d h i j k p q r = (omega arith, omega arith)

same_place : (m n s t : ℤ) → m ≡ n → s ≡ t → ◌≡◌ {A = Location} (record { latitude = m; longitude = s }) (record { latitude = n; longitude = t })
same_place m n s t p q = cc

pub place_one : LocationIsOne
place_one l m h k e =
    let north = wider l.latitude h.latitude in
    let other = wider m.latitude k.latitude in
    let first : twelve l.latitude / 16 ≡ twelve m.latitude / 16 = cc in
    let second : twelve l.latitude % 16 * 16 + twelve l.longitude / 256 ≡ twelve m.latitude % 16 * 16 + twelve m.longitude / 256 = cc in
    let third : twelve l.longitude % 256 ≡ twelve m.longitude % 256 = cc in
    let both = digits_one (twelve l.latitude) (twelve l.longitude) (twelve m.latitude) (twelve m.longitude)
    (twelve_below l.latitude north) (twelve_below l.longitude h.longitude) (twelve_below m.latitude other) (twelve_below m.longitude k.longitude)
    first second third in
    same_place l.latitude m.latitude l.longitude m.longitude
    (twelve_one l.latitude m.latitude north other both.0)
    (twelve_one l.longitude m.longitude h.longitude k.longitude both.1)
