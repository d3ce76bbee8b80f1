mod SpaceLaws
mod WireLaws
