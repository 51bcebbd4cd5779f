pub mod Again
pub mod Printed
pub mod Defaulted
pub mod LexiconText
pub mod ValueWords
pub mod WordPlaces
